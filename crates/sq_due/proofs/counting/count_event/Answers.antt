use Rattle.std.proofs.Common.{refl}
use Rattle.sq_due.proofs.CountLemmas.{drop_counted, line_counted, plan_counted}
use Rattle.sq_due.proofs.WritingLemmas.{on_ok}
use Rattle.sq_due.proofs.counting.count_event.Goals as goal

pub returns-in-Line-clause-ok : goal.returns-in-Line-clause-ok
returns-in-Line-clause-ok c =
    on_ok c.add_one.result c.add_one.ensures.ok
    (λ one. rw c.in-Line.is (line_counted c.args.counts.now _ c.in-Line.output c.in-Line.tuple (rw c.in-Line.is at c.requires.there) refl one))

pub returns-in-Dropped-clause-ok : goal.returns-in-Dropped-clause-ok
returns-in-Dropped-clause-ok c =
    on_ok c.add_one-in-Dropped.result c.add_one-in-Dropped.ensures.ok
    (λ one. rw c.in-Dropped.is (drop_counted c.args.counts.now _ c.in-Dropped.decision (rw c.in-Dropped.is at c.requires.there) refl one))

pub returns-in-Plan-clause-ok : goal.returns-in-Plan-clause-ok
returns-in-Plan-clause-ok c = rw c.in-Plan.is (plan_counted c.args.counts.now _ _ _ _ _ _ refl)
