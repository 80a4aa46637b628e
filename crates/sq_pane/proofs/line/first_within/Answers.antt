use Rattle.std.proofs.Common.{◌≡◌, ℕ, true, false, subst, sym, ◌∙◌, arith}
use Rattle.std.proofs.lemmas.List.{get_or_default}
use Rattle.sq_pane.specs.Panes.{within}
use Rattle.sq_pane.proofs.BlockLemmas.{next_joined}
use Rattle.sq_pane.proofs.line.first_within.Goals as goal

pub loop-at-preserved : goal.loop-at-preserved
loop-at-preserved g c =
    let es = c.args.states.now.items in
    let i : ℕ = c.loop-at.at in
    let room = c.requires.room in
    let below = c.loop-at-test.true in
    λ none join o.
    sym (next_joined none join c.args.window c.args.width c.args.start o es i c.index.result.now false (omega (arith, room, below)) c.index.ensures (sym c.is_within.ensures ∙ c.if-is_within.false))
    ∙ c.loop-at.invariant none join o

pub returns-then-is_within-clause-covered : goal.returns-then-is_within-clause-covered
returns-then-is_within-clause-covered g c =
    let es = c.args.states.now.items in
    let i : ℕ = c.loop-at.at in
    let x = c.index.result.now in
    λ d less.
    subst (λ (z : ℕ × g.row.S.Denot). within c.args.window c.args.width c.args.start z.0 ≡ true)
    (c.index.ensures ∙ get_or_default es i x d (let room = c.requires.room in omega (arith, room, less)))
    (sym c.is_within.ensures ∙ c.if-is_within.true)
