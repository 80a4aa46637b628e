use Rattle.std.specs.List.{range_with_len}
use Rattle.sq_flow.specs.Engines.{Looked}
use Rattle.sq_flow.proofs.engine.Engine.look_at_all.Given as goal

abbrev pub invariant-loop-actor : goal.invariant-loop-actor
invariant-loop-actor g l = Looked (range_with_len 0 l.actor) l.fn.self l.self
