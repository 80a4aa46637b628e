use Rattle.sq_core.specs.Runs.{flow_of}
use Rattle.sq_core.proofs.KnownLemmas.{known-clear}
use Rattle.sq_core.proofs.engine.Engine.ended.Goals as goal

-- a replay of which all is known waits for no source
pub unreachable-requires : goal.unreachable-requires
unreachable-requires c =
    let flow = flow_of c.args.self.now in
    let clear = known-clear flow.sources.items flow.ahead.items c.requires.known in
    let held = (c.state.ensures.waits c.in-Waiting.is).held in
    cc
