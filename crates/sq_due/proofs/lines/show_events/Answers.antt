use Rattle.std.proofs.Common.{arith}
use Rattle.sq_lines.specs.RunLines.{event_line}
use Rattle.sq_lines.proofs.PairLemmas.{text-more}
use Rattle.sq_due.proofs.WritingLemmas.{lost_at, lost_later, moves-then}
use Rattle.sq_due.proofs.lines.show_events.Goals as goal

pub returns-in-Err-clause-err : goal.returns-in-Err-clause-err
returns-in-Err-clause-err g c =
    let lost = c.in-Err.ensures.err in
    record {
      begun = lost_at (event_line c.args.network.now) c.args.events.now c.events.event-index c.event-item.result _ _ _ _ c.events.text.items c.events-test.true c.event-item.is c.events.invariant.moves lost.begun;
      lost = lost_later _ _ _ c.in-Err.status c.events.invariant.later lost.lost;
    }

pub events-preserved : goal.events-preserved
events-preserved g c =
    let text = text-more (event_line c.args.network.now) c.args.events.now c.events.event-index c.event-item.result c.events-test.true c.event-item.is in
    record {
      moves = rw text (moves-then _ _ _ _ _ _ _ _ c.events.invariant.moves c.in-Ok.ensures.ok);
      later = omega (arith, c.events.invariant.later, c.in-Ok.ensures.later);
    }
