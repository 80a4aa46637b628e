use Rattle.std.proofs.Common.{◌≡◌, ◌≤◌}
use Rattle.sq_joined.specs.Staying.{box_moved}
use Rattle.sq_joined.proofs.wires.boxes_staying.Given as goal

abbrev pub invariant-loop-at : goal.invariant-loop-at
invariant-loop-at l = record {
  counted : l.number ≡ box_moved l.keep l.at;
  low : l.number ≤ l.at;
}
