use Rattle.std.proofs.lemmas.List.{take_all}
use Rattle.sq_due.proofs.CountLemmas.{next_counted, none_counted, there_at}
use Rattle.sq_due.proofs.counting.count_events.Goals as goal

pub count_event-requires : goal.count_event-requires
count_event-requires c =
    record { there = there_at c.args.events.now c.events.event-index c.event-item.result _ _ _ c.events-test.true c.event-item.is c.events.invariant c.requires.there }

pub events-init : goal.events-init
events-init c = none_counted c.args.counts.now

pub events-preserved : goal.events-preserved
events-preserved c =
    next_counted c.args.events.now c.events.event-index c.event-item.result _ _ _ c.events-test.true c.event-item.is c.events.invariant c.in-Ok.ensures.ok

pub returns-clause-ok : goal.returns-clause-ok
returns-clause-ok c = rw (take_all c.events.event-index c.args.events.now c.events-test.false) at c.events.invariant
