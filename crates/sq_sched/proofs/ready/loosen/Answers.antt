use Rattle.std.proofs.lemmas.List.{drop-drop}
use Rattle.sq_sched.proofs.ready.loosen.Goals as goal

pub loop-preserved : goal.loop-preserved
loop-preserved c = rw (c.take_free.ensures.free, c.loop.invariant, drop-drop 1 c.loop.counter c.args.chains.now.free)
