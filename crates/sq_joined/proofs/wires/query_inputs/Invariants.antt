use Rattle.std.proofs.Common.{◌≡◌, map, take}
use Rattle.sq_joined.specs.Joining.{query_moved}
use Rattle.sq_joined.proofs.wires.query_inputs.Given as goal

abbrev pub invariant-loop-s : goal.invariant-loop-s
invariant-loop-s l = l.moved.items ≡ map (query_moved l.tap) (take l.s-index l.inputs)
