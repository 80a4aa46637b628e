use Rattle.std.proofs.Common.{◌≡◌, map, length, take}
use Rattle.std.specs.List.{All}
use Rattle.sq_value.specs.Values.{IsStream}
use Rattle.sq_graph.specs.Wires.{producers_of}
use Rattle.sq_graph.specs.Order.{order_of}
use Rattle.sq_model.specs.StreamsSoFar.{Stands}
use Rattle.sq_model.proofs.streams.full_streams.Given as goal

abbrev pub invariant-loop-at : goal.invariant-loop-at
invariant-loop-at l = record {
  order : l.at-items ≡ order_of l.n.wires;
  room : length l.streams.items ≡ length (producers_of l.n.wires);
  stands : Stands l.n (map (λ t. t.items) l.fn.sources.items) (take l.at-index (order_of l.n.wires)) (map (λ t. t.items) l.streams.items);
  streams : All IsStream (map (λ t. t.items) l.streams.items);
}
