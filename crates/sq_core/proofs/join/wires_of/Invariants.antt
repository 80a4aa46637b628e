use Rattle.sq_core.specs.Joining.{IsJoining, Fixed}
use Rattle.sq_core.proofs.join.wires_of.Given as goal

abbrev pub invariant-loop-actor : goal.invariant-loop-actor
invariant-loop-actor l = IsJoining l.fn.shown l.feeds l.actor 0 l.wires × Fixed l.initial.wires l.wires
