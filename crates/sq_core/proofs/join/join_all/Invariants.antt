use Rattle.sq_core.specs.Joining.{IsJoining, Fixed}
use Rattle.sq_core.proofs.join.join_all.Given as goal

abbrev pub invariant-loop-place : goal.invariant-loop-place
invariant-loop-place l = IsJoining l.fn.wires.shown l.feeds l.actor l.place l.wires × Fixed l.fn.wires l.wires
