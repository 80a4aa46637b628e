use Rattle.std.proofs.Common.{◌≡◌, drop, length}
use Rattle.sq_reader.specs.Columns.{no_nodes, nodes_from}
use Rattle.sq_reader.proofs.ReadyLemmas.{AreReady}
use Rattle.sq_reader.proofs.nodes.nodes_in.Given as goal

abbrev pub invariant-loop-at : goal.invariant-loop-at
invariant-loop-at l = record {
  so_far : nodes_from l.raw l.w l.sources l.nodes.items (drop l.at-index l.order) ≡ nodes_from l.raw l.w l.sources (no_nodes (length l.raw.boxes)) l.order;
  ready : AreReady l.w l.nodes.items (drop l.at-index l.order);
}
