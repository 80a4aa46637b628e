use Rattle.std.proofs.Common.{◌≡◌, ◌≤◌, drop, length}
use Rattle.sq_slices.specs.Reaches.{union_reach}
use Rattle.sq_slices.proofs.boxes.union_reach.Given as goal

abbrev pub decreases-loop-place : goal.decreases-loop-place
decreases-loop-place l = l.place

abbrev pub invariant-loop-place : goal.invariant-loop-place
invariant-loop-place l = record {
  inside : l.place ≤ length l.reaches;
  all : l.all ≡ union_reach (drop l.place l.reaches);
}
