use Rattle.std.proofs.Common.{◌≡◌, drop, slice_get}
use Rattle.sq_graph.specs.Wires.{producer_of}
use Rattle.sq_graph.proofs.Streams.{ports_from}
use Rattle.sq_graph.proofs.given_by.Given as goal

abbrev pub invariant-loop-at : goal.invariant-loop-at
invariant-loop-at l = slice_get (ports_from l.at (drop l.at l.w.boxes)) l.left ≡ producer_of l.w l.stream
