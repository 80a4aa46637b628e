use Rattle.std.proofs.Common.{◌≡◌, ◌+◌, length, drop}
use Rattle.std.specs.List.{flat_map}
use Rattle.sq_tap.specs.Names.{port_names}
use Rattle.sq_tap.proofs.names.all_ports_fit.Given as goal

abbrev pub invariant-loop-b : goal.invariant-loop-b
invariant-loop-b l =
    l.left + length (flat_map (λ b. port_names b.name b.body) l.boxes) ≡ l.room + length (flat_map (λ b. port_names b.name b.body) (drop l.b-index l.boxes))
