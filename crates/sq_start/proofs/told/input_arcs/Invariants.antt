use Rattle.std.proofs.Common.{◌≡◌, map}
use Rattle.sq_words.specs.Lists.{numbers_to}
use Rattle.sq_graph.specs.Wires.{arc_at}
use Rattle.sq_start.proofs.told.input_arcs.Given as goal

abbrev pub invariant-loop-port : goal.invariant-loop-port
invariant-loop-port l = l.arcs.items ≡ map (arc_at l.n.wires l.b) (numbers_to l.port)
