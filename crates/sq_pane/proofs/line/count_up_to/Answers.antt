use Rattle.std.proofs.Common.{◌≡◌, ℕ, ◌+◌, ◌-◌, ◌<◌, ◌∷◌, drop, ap₂, sym, subst, ◌∙◌, arith}
use Rattle.std.proofs.lemmas.List.{drop_more}
use Rattle.std.specs.List.{AllByRecursion}
use Rattle.sq_pane.proofs.line.count_up_to.Goals as goal

pub loop-count-preserved : goal.loop-count-preserved
loop-count-preserved g c =
    let es = c.args.states.now.items in
    let n : ℕ = c.loop-count.count - 1 in
    let some = c.loop-count-test.true in
    let within = c.loop-count.invariant.within in
    let above = c.if-index-pane.true in
    let next : n + 1 ≡ c.loop-count.count = omega (arith, some) in
    let more = drop_more es n c.index.result.now (omega (arith, some, within)) ∙ ap₂ (λ z k. z ∷ drop k es) (sym c.index.ensures) next in
    record {
      within = omega (arith, within);
      after = subst (AllByRecursion (λ e. c.args.pane < e.0)) (sym more) (above, c.loop-count.invariant.after);
    }
