use Rattle.std.proofs.Common.{◌≡◌, map, take}
use Rattle.sq_joined.specs.Staying.{staying, stream_moved}
use Rattle.sq_joined.specs.Joining.{rewired}
use Rattle.sq_joined.proofs.wires.staying_wires.Given as goal

abbrev pub invariant-loop-at : goal.invariant-loop-at
invariant-loop-at l = l.out.items ≡ map (rewired (stream_moved l.w l.keep)) (staying (take l.at l.keep) (take l.at l.w.boxes))
