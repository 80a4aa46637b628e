use Rattle.std.proofs.Common.{◌≡◌, ◌++◌, drop}
use Rattle.std.specs.List.{flat_map}
use Rattle.sq_rules.specs.Streaming.{told_port_names}
use Rattle.sq_rules.proofs.streams.push_all_ports.Given as goal

abbrev pub invariant-loop-b : goal.invariant-loop-b
invariant-loop-b l = l.names.items ++ flat_map (λ b. told_port_names b.name b.body) (drop l.b-index l.boxes) ≡ l.initial.names.items ++ flat_map (λ b. told_port_names b.name b.body) l.boxes
