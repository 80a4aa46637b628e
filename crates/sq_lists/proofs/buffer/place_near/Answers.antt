use Rattle.std.proofs.Common.{◌≡◌, ℕ, ◌+◌, ◌-◌, ◌<◌, ◌∷◌, drop, ap₂, sym, subst, ◌∙◌, arith}
use Rattle.std.proofs.lemmas.List.{drop_more}
use Rattle.std.specs.List.{AllByRecursion}
use Rattle.sq_lists.proofs.buffer.place_near.Goals as goal

pub loop-place-preserved : goal.loop-place-preserved
loop-place-preserved c =
    let es = c.args.near.now.items in
    let n : ℕ = c.loop-place.place - 1 in
    let some = c.loop-place-test.true in
    let within = c.loop-place.invariant.within in
    let above = c.if-index-time.true in
    let next : n + 1 ≡ c.loop-place.place = omega (arith, some) in
    let more = drop_more es n c.index.result.now (omega (arith, some, within)) ∙ ap₂ (λ z k. z ∷ drop k es) (sym c.index.ensures) next in
    record {
      within = omega (arith, within);
      after = subst (AllByRecursion (λ e. c.args.time < e.0.0)) (sym more) (above, c.loop-place.invariant.after);
    }
