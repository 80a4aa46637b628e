use Rattle.std.proofs.Common.{◌^◌, Option, subst, sym}
use Rattle.std.specs.Option.{IfSome}
use Rattle.sq_slices.specs.declared.Reach.{Reach}
use Rattle.sq_slices.specs.Bounds.{IsLow}
use Rattle.sq_slices.proofs.BoundLemmas.{union-rest}
use Rattle.sq_slices.proofs.boxes.union_reach.Goals as goal

pub both_if-all-requires-clause-second : goal.both_if-all-requires-clause-second
both_if-all-requires-clause-second c =
    subst (λ (o : Option Reach). IfSome o (IsLow (2 ^ 60))) (sym c.loop-place.invariant.all) (union-rest c.loop-place.place c.args.reaches.now c.requires.few c.requires.low)
