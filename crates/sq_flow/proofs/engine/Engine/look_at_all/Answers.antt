use Rattle.sq_flow.proofs.LookLemmas.{looked-all}
use Rattle.sq_flow.proofs.engine.Engine.look_at_all.Goals as goal

pub loop-actor-preserved : goal.loop-actor-preserved
loop-actor-preserved g c = looked-all c.loop-actor.actor _ _ _ c.loop-actor.invariant c.look_at.ensures
