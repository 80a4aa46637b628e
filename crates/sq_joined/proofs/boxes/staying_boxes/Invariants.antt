use Rattle.std.proofs.Common.{◌≡◌, ◌++◌, ◌+◌, length, drop}
use Rattle.sq_joined.specs.Staying.{staying}
use Rattle.sq_joined.proofs.boxes.staying_boxes.Given as goal

abbrev pub invariant-loop-rest : goal.invariant-loop-rest
invariant-loop-rest l = record {
  so_far : l.kept.items ++ staying (drop l.at l.keep) l.rest.items ≡ staying l.keep l.initial.rest.items;
  count : l.at + length l.rest.items ≡ length l.initial.rest.items;
}

abbrev pub decreases-loop-rest : goal.decreases-loop-rest
decreases-loop-rest l = length l.rest.items
