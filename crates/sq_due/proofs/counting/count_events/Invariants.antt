use Rattle.std.proofs.Common.{take}
use Rattle.sq_due.specs.Counting.{Counted}
use Rattle.sq_due.proofs.counting.count_events.Given as goal

abbrev pub invariant-events : goal.invariant-events
invariant-events l = Counted (take l.event-index l.events) l.fn.counts l.counts
