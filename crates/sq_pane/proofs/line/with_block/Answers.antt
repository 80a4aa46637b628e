use Rattle.std.proofs.Common.{ℕ, ◌+◌, drop, refl, ap, sym, ◌∙◌, arith}
use Rattle.std.proofs.lemmas.Result.{IfOk-weaker}
use Rattle.sq_pane.specs.Panes.{joined_within}
use Rattle.sq_rows.specs.Rows.{total}
use Rattle.sq_pane.proofs.BlockLemmas.{drop_add, all_mapped, total_split, block_covered, shaped_if}
use Rattle.sq_pane.proofs.line.with_block.Goals as goal

pub joined_to-requires-clause-few : goal.joined_to-requires-clause-few
joined_to-requires-clause-few g c =
    let number = g.F.Fold.number c.args.fold.now in
    let es = c.args.states.now.items in
    let run = total_split number 64 (drop c.args.at es) in
    let count = c.requires.block.count in
    let few = c.requires.few in
    omega (arith, run, count, few)

pub returns-then-last-clause-value : goal.returns-then-last-clause-value
returns-then-last-clause-value g c =
    let fold = c.args.fold.now in
    let laws = g.met.F.Fold in
    let es = c.args.states.now.items in
    let at : ℕ = c.args.at in
    let none = g.F.Fold.none fold in
    let join = g.F.Fold.joined fold in
    let all = all_mapped _ _ (λ e is. laws.shaped_made fold e.1 is) es c.requires.made.1 in
    let so = shaped_if (g.F.Fold.made fold) (g.F.Fold.shaped fold) none (laws.shaped_made fold) (laws.shaped_none fold) c.args.joined c.requires.made.0 in
    IfOk-weaker c.joined_to.result _ _
    (λ o e. ap (λ z. joined_within none join c.args.window c.args.width c.args.start z (drop (at + 64) es)) e
    ∙ block_covered (g.F.Fold.shaped fold) none join (laws.shaped_joined fold) (laws.associates fold) (laws.none_first fold) c.args.window c.args.width c.args.start 63 at c.args.joined es c.index.result.now c.index-2.result.now c.args.block.now
    c.requires.rises c.requires.room all so c.index.ensures c.index-2.ensures (sym c.is_within-first.ensures ∙ c.if-first.true) (sym c.is_within-last.ensures ∙ c.if-last.true) c.requires.block.value)
    c.joined_to.ensures.value

pub returns-then-last-clause-few : goal.returns-then-last-clause-few
returns-then-last-clause-few g c =
    let number = g.F.Fold.number c.args.fold.now in
    let es = c.args.states.now.items in
    let at : ℕ = c.args.at in
    let run = total_split number 64 (drop at es) in
    let past = ap (total number) (drop_add at 64 (at + 64) es refl) in
    let count = c.requires.block.count in
    IfOk-weaker c.joined_to.result _ _ (λ o le. omega (arith, run, past, count, le)) c.joined_to.ensures.few
