use Rattle.std.proofs.Common.{arith, refl}
use Rattle.sq_status.specs.Messages.{source_told}
use Rattle.sq_due.specs.States.{sink_state}
use Rattle.sq_top.proofs.EndLemmas.{told_ends, told_nothing}
use Rattle.sq_top.proofs.StopLemmas.{told_plain, told_refused}
use Rattle.sq_top.proofs.run_words.Goals as goal

pub returns-in-Ok : goal.returns-in-Ok
returns-in-Ok g c =
    let own = c.run-stopped.ensures in
    record {
      ends = record {
        source = source_told c.run-stopped.result.source;
        ends = rw c.in-Ok.is at (own.ends (sink_state g.E.Sink c.args.err.now) (sink_state g.E.Sink c.args.err.now));
        told = told_nothing (source_told c.run-stopped.result.source) (g.E.Sink.written c.args.err.now) _;
        leaves = record {
          same_files = own.files;
          unread = λ none. let same = own.unread none in rw (own.files, same.0, same.1, same.2) refl;
          same_disk = λ refused. absurd (cc);
          no_engine = λ plain. let same = own.no_engine plain in (refl, rw (same.1, same.2) refl, same.3);
          later = own.later;
          counts = own.counts;
        };
        counted = omega arith;
      };
    }

pub returns : goal.returns
returns g c =
    let own = c.run-stopped.ensures in
    record {
      ends = record {
        source = source_told c.run-stopped.result.source;
        ends = told_ends _ _ _ c.run-stopped.result.status c.tell.result.status _ c.in_default.not-Ok c.tell.ensures.status (own.ends (sink_state g.E.Sink c.args.err.now) (sink_state g.E.Sink c.tell.new.err));
        told = rw c.tell.ensures.source at c.tell.ensures.told;
        leaves = record {
          same_files = own.files;
          unread = λ none. let same = own.unread none in rw (own.files, same.0, same.1, same.2) refl;
          same_disk = λ refused. let same = own.disk (told_refused _ _ c.tell.ensures.status refused) in rw (same.0, same.1) refl;
          no_engine = λ plain. let same = own.no_engine plain in (told_plain _ _ c.tell.ensures.status same.0, rw (same.1, same.2) refl, same.3);
          later = own.later;
          counts = own.counts;
        };
        counted = c.tell.ensures.later;
      };
    }
