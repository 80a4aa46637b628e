-- What the states of boxes, window drops and outputs mean, in the words of the law of operators.
use Rattle.sq_oper.specs.declared.operator.Operator.{Ghosts}
use Rattle.sq_actor.specs.declared.actor.Actor.{Actor}
use Rattle.sq_actor.specs.contracts.actor.ActorOperator.TheImpl.{ghosts}

abbrev pub actors : Ghosts Actor
actors = ghosts
