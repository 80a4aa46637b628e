use Rattle.std.proofs.Common.{◌≡◌, [], drop, None}
use Rattle.sq_graph.specs.Order.{order_of}
use Rattle.sq_core.specs.Table.{turned, drops_behind, with_boxes}
use Rattle.sq_core.proofs.network.actors_of.Given as goal

abbrev pub invariant-loop-index : goal.invariant-loop-index
invariant-loop-index l = with_boxes l.it.n.now (drop l.index l.boxes.items) l.all.items ≡ with_boxes l.it.n.now (order_of l.it.n.now.wires) (turned [] (drops_behind l.it.n.now None))
