use Rattle.std.proofs.Common.{◌≡◌, map, take}
use Rattle.sq_joined.specs.Staying.{stream_moved}
use Rattle.sq_joined.proofs.wires.moved_inputs.Given as goal

abbrev pub invariant-loop-s : goal.invariant-loop-s
invariant-loop-s l = l.moved.items ≡ map (stream_moved l.w l.keep) (take l.s-index l.inputs)
