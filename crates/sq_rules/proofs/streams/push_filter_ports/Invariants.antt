use Rattle.std.proofs.Common.{◌≡◌, ◌++◌, ◌+◌, map}
use Rattle.sq_words.specs.Lists.{numbers_to}
use Rattle.sq_rules.proofs.streams.push_filter_ports.Given as goal
use Rattle.sq_net.specs.Names.{port_name}

abbrev pub invariant-loop-port : goal.invariant-loop-port
invariant-loop-port l = l.names.items ≡ l.initial.names.items ++ map (λ i. port_name l.name (i + 1)) (numbers_to l.port)
