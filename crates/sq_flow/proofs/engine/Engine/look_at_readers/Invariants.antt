use Rattle.std.proofs.Common.{take}
use Rattle.sq_flow.specs.Engines.{Looked, readers_of}
use Rattle.sq_flow.proofs.engine.Engine.look_at_readers.Given as goal

abbrev pub invariant-loop-index : goal.invariant-loop-index
invariant-loop-index g l = Looked (take l.index (readers_of l.fn.self.flow l.seat)) l.fn.self l.self
