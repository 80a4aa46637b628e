use Rattle.std.proofs.Common.{map}
use Rattle.std.specs.List.{All}
use Rattle.sq_value.specs.Values.{IsStream}
use Rattle.sq_model.proofs.StandingLemmas.{Giving}
use Rattle.sq_model.proofs.streams.give_ports.Given as goal

abbrev pub invariant-loop-port : goal.invariant-loop-port
invariant-loop-port l = record {
  giving : Giving l.n l.at l.port (map (λ t. t.items) l.fn.streams) (map (λ t. t.items) l.streams);
  streams : All IsStream (map (λ t. t.items) l.streams);
}
