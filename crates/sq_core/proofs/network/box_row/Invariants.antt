use Rattle.std.proofs.Common.{◌≡◌, ◌++◌, drop, map}
use Rattle.sq_graph.specs.Wires.{input_arcs_of}
use Rattle.sq_core.specs.Table.{arc_feed}
use Rattle.sq_core.proofs.network.box_row.Given as goal

abbrev pub invariant-loop-index : goal.invariant-loop-index
invariant-loop-index l = map (arc_feed l.it.n.now) (input_arcs_of l.it.n.now.wires l.at) ≡ l.row.items ++ map (arc_feed l.it.n.now) (drop l.index l.arcs.items)
