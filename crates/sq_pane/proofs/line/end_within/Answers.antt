use Rattle.std.proofs.Common.{◌≡◌, ℕ, ◌+◌, ◌-◌, true, false, drop, get_or, ap, subst, sym, ◌∙◌, arith}
use Rattle.std.proofs.lemmas.List.{get_or_default}
use Rattle.sq_pane.specs.Panes.{within, joined_within}
use Rattle.sq_pane.proofs.BlockLemmas.{next_joined}
use Rattle.sq_pane.proofs.line.end_within.Goals as goal

pub loop-end-preserved : goal.loop-end-preserved
loop-end-preserved g c =
    let es = c.args.states.now.items in
    let i : ℕ = c.loop-end.end - 1 in
    let room = c.requires.room in
    let more = c.loop-end-test.true in
    let low = c.loop-end.invariant.from in
    let high = c.loop-end.invariant.to in
    let next : i + 1 ≡ c.loop-end.end = omega (arith, more) in
    record {
      from = omega (arith, more);
      to = omega (arith, high);
      some = λ less. omega (arith, more);
      after = λ none join o.
          let whole = joined_within none join c.args.window c.args.width c.args.start o in
          c.loop-end.invariant.after none join o
          ∙ sym (ap (λ n. whole (drop n es)) next)
          ∙ sym (next_joined none join c.args.window c.args.width c.args.start o es i c.index.result.now false (omega (arith, room, more, high)) c.index.ensures (sym c.is_within.ensures ∙ c.if-is_within.false));
    }

pub returns-then-is_within-clause-covered : goal.returns-then-is_within-clause-covered
returns-then-is_within-clause-covered g c =
    let es = c.args.states.now.items in
    let i : ℕ = c.loop-end.end - 1 in
    let x = c.index.result.now in
    let room = c.requires.room in
    let high = c.loop-end.invariant.to in
    λ d less.
    subst (λ (z : ℕ × g.row.S.Denot). within c.args.window c.args.width c.args.start z.0 ≡ true)
    (c.index.ensures ∙ get_or_default es i x d (omega (arith, room, less, high)))
    (sym c.is_within.ensures ∙ c.if-is_within.true)

pub returns-clause-covered : goal.returns-clause-covered
returns-clause-covered g c =
    let es = c.args.states.now.items in
    let from : ℕ = c.args.from in
    let over = c.loop-end-test.false in
    let high = c.loop-end.invariant.to in
    λ d less.
    let place : from ≡ c.loop-end.end - 1 = omega (arith, over, less) in
    subst (λ k. within c.args.window c.args.width c.args.start (get_or es k d).0 ≡ true) place (c.requires.first d (let up = less in omega (arith, up, high)))
