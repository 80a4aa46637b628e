use Rattle.std.proofs.Common.{◌∙◌, ◌^◌, List, Option, ap, arith, length, subst, sym}
use Rattle.sq_slices.specs.declared.Reach.{Reach}
use Rattle.sq_slices.specs.Bounds.{AreLow}
use Rattle.sq_slices.proofs.BoundLemmas.{outputs-few, outputs-low}
use Rattle.sq_slices.proofs.rounds.outputs_reach.Goals as goal

pub union_reach-requires-clause-few : goal.union_reach-requires-clause-few
union_reach-requires-clause-few c =
    let same = ap (λ (rs : List (Option Reach)). length rs) (c.deref.ensures.value ∙ c.in_ok-each.ensures) in
    let few = outputs-few c.args.n.now c.requires.sound c.args.delay in
    omega (arith, same, few)

pub union_reach-requires-clause-low : goal.union_reach-requires-clause-low
union_reach-requires-clause-low c =
    subst (AreLow (2 ^ 59)) (sym (c.deref.ensures.value ∙ c.in_ok-each.ensures)) (outputs-low c.args.n.now c.requires.sound c.args.delay c.requires.delay)
