use Rattle.std.proofs.Common.{◌+◌, refl, arith}
use Rattle.sq_sched.specs.ReadyLists.{OnlyOnce}
use Rattle.sq_sched.proofs.ReadyLemmas.{next-at, next-is}
use Rattle.sq_sched.proofs.ChainLemmas.{once-in}
use Rattle.sq_sched.proofs.ready.Ready.at.Goals as goal

pub behind-actor-requires : goal.behind-actor-requires
behind-actor-requires c =
    let once : OnlyOnce c.args.self.now.list = rw (← c.self.view_is) (once-in c.self.inside.chains c.one_place_each.ensures) in
    let next = next-at c.args.self.now.list c.loop.counter once (omega arith) in
    rw (c.loop.invariant, next) refl

pub loop-preserved : goal.loop-preserved
loop-preserved c =
    let once : OnlyOnce c.args.self.now.list = rw (← c.self.view_is) (once-in c.self.inside.chains c.one_place_each.ensures) in
    next-is c.args.self.now.list c.loop.counter (c.loop.counter + 1) c.loop.actor c.behind-actor.result once c.loop.invariant (omega arith) (omega arith) c.behind-actor.ensures
