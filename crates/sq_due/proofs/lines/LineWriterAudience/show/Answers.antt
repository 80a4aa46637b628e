use Rattle.sq_due.proofs.LineLemmas.{shown_lost, shown_then}
use Rattle.sq_due.proofs.WritingLemmas.{loses_map, on_ok}
use Rattle.sq_due.proofs.lines.LineWriterAudience.show.Goals as goal

pub returns-clause-ok : goal.returns-clause-ok
returns-clause-ok g c =
    on_ok c.show_events.result c.show_events.ensures.ok
    (λ moves from before was. shown_then c.args.network.now (g.S.Sink.written from) (g.S.Sink.written c.args.out.now) (g.S.Sink.written c.show_events.new.out)
    c.args.self.now.text.items before was c.show_events.new.text.items c.args.events.now moves)

pub returns-clause-err : goal.returns-clause-err
returns-clause-err g c =
    loses_map _ _ c.show_events.result c.show_events.ensures.err
    (λ written from before was. shown_lost c.args.network.now (g.S.Sink.written from) (g.S.Sink.written c.args.out.now) (g.S.Sink.written c.show_events.new.out)
    c.args.self.now.text.items before was c.args.events.now written)
