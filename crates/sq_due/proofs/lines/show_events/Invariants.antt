use Rattle.std.proofs.Common.{◌≤◌, take}
use Rattle.sq_due.specs.Writing.{Moves}
use Rattle.sq_due.specs.Histories.{history_text}
use Rattle.sq_due.proofs.lines.show_events.Given as goal

abbrev pub invariant-events : goal.invariant-events
invariant-events g l = record {
  moves : Moves (g.S.Sink.written l.fn.out) l.fn.text.items (g.S.Sink.written l.out) l.text.items (history_text l.network (take l.event-index l.events));
  later : g.S.Sink.faults l.fn.out ≤ g.S.Sink.faults l.out;
}
