use Rattle.std.proofs.Common.{◌+◌, ◌^◌, Option, arith, subst, sym}
use Rattle.std.specs.Option.{IfSome}
use Rattle.sq_slices.specs.declared.Reach.{Reach}
use Rattle.sq_slices.specs.Bounds.{IsLow}
use Rattle.sq_slices.specs.Reaches.{both_if}
use Rattle.sq_slices.proofs.BoundLemmas.{both-low-if, more-low-if}
use Rattle.sq_slices.proofs.boxes.joined_reach.Goals as goal

pub earlier_if-requires-clause-low : goal.earlier_if-requires-clause-low
earlier_if-requires-clause-low c =
    subst (λ (o : Option Reach). IfSome o (IsLow (2 ^ 60))) (sym c.both_if.ensures)
    (more-low-if (2 ^ 59 + 2 ^ 32) (2 ^ 60) (both_if c.args.left c.args.right) (omega arith) (both-low-if (2 ^ 59) c.args.left c.args.right c.requires.left c.requires.right))
