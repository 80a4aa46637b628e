use Rattle.std.proofs.Common.{◌≡◌, ◌≤◌, length, take}
use Rattle.std.specs.List.{filter}
use Rattle.sq_graph.specs.Wires.{producers_of}
use Rattle.sq_joined.specs.Staying.{is_kept}
use Rattle.sq_joined.proofs.wires.stream_moved.Given as goal

abbrev pub invariant-loop-s : goal.invariant-loop-s
invariant-loop-s l = record {
  counted : l.number ≡ length (filter (is_kept l.keep) (take l.s (producers_of l.w)));
  low : l.number ≤ l.s;
}
