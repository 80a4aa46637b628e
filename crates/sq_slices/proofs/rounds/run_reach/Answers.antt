use Rattle.std.proofs.Common.{◌∙◌, ◌^◌, List, Option, Some, ap, arith, length, subst, sym}
use Rattle.std.specs.Option.{IfSome}
use Rattle.sq_words.specs.Lists.{numbers_to}
use Rattle.sq_graph.specs.Wires.{producers_of}
use Rattle.sq_slices.specs.declared.Reach.{Reach}
use Rattle.sq_slices.specs.Bounds.{AreLow, IsLow}
use Rattle.sq_slices.specs.Reaches.{union_reach}
use Rattle.sq_slices.proofs.BoundLemmas.{all-few, all-low, all-union-low}
use Rattle.sq_slices.proofs.rounds.run_reach.Goals as goal

pub union_reach-requires-clause-few : goal.union_reach-requires-clause-few
union_reach-requires-clause-few c =
    let same = ap (λ (rs : List (Option Reach)). length rs) (c.deref.ensures.value ∙ c.in_ok-all.ensures) in
    let few = all-few c.args.n.now c.requires.sound (Some c.args.delay) in
    omega (arith, same, few)

pub union_reach-requires-clause-low : goal.union_reach-requires-clause-low
union_reach-requires-clause-low c =
    let n = c.args.n.now in
    subst (AreLow (2 ^ 59)) (sym (c.deref.ensures.value ∙ c.in_ok-all.ensures)) (all-low n c.requires.sound (Some c.args.delay) c.requires.delay (numbers_to (length (producers_of n.wires))))

pub earlier_if-requires-clause-low : goal.earlier_if-requires-clause-low
earlier_if-requires-clause-low c =
    subst (λ (o : Option Reach). IfSome o (IsLow (2 ^ 60))) (sym (c.union_reach.ensures ∙ ap union_reach (c.deref.ensures.value ∙ c.in_ok-all.ensures)))
    (all-union-low c.args.n.now c.requires.sound (Some c.args.delay) c.requires.delay)
