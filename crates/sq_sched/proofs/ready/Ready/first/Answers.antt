use Rattle.std.proofs.Common.{arith}
use Rattle.sq_link.proofs.ChainLemmas.{first-stands}
use Rattle.sq_sched.specs.ReadyLists.{ready_in}
use Rattle.sq_sched.proofs.ChainLemmas.{below-in}
use Rattle.sq_sched.proofs.ready.Ready.first.Goals as goal

pub overflow_cast-result : goal.overflow_cast-result
overflow_cast-result c =
    let there = first-stands (ready_in c.self.inside.chains) c.in-Some.actor c.in-Some.ensures in
    let low = below-in c.self.inside.actors c.self.inside.count c.self.inside.chains c.in-Some.actor c.self.invariant c.one_place_each.ensures there in
    omega (arith, low)
