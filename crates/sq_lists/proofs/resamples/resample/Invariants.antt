use Rattle.std.proofs.Common.{◌≡◌, ◌≤◌, ◌++◌, drop, length}
use Rattle.sq_lists.specs.WindowParts.{TimesNotFalling}
use Rattle.sq_lists.specs.Resamples.{resample_of}
use Rattle.sq_lists.proofs.resamples.resample.Given as goal

abbrev pub invariant-loop-x : goal.invariant-loop-x
invariant-loop-x g l = record {
  given : l.out.items ++ resample_of (g.F.Fold.table l.fold) l.size (drop l.x-index l.left) (drop l.from l.right) ≡ resample_of (g.F.Fold.table l.fold) l.size l.left l.right;
  coming : TimesNotFalling 0 (drop l.x-index l.left);
  rises : TimesNotFalling 0 (drop l.from l.right);
  most : l.from ≤ length l.right;
}
