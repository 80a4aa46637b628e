use Rattle.sq_due.proofs.LineLemmas.{all_written, last_lost}
use Rattle.sq_queue.proofs.LaneLemmas.{on-ok-both}
use Rattle.sq_due.proofs.WritingLemmas.{loses_map}
use Rattle.sq_due.proofs.lines.LineWriterAudience.close.Goals as goal

pub returns-clause-ok : goal.returns-clause-ok
returns-clause-ok g c = on-ok-both c.send.result c.send.ensures.ok c.send.ensures.none_waits (λ moves none from n events was. all_written n _ _ _ _ events was _ moves none)

pub returns-clause-err : goal.returns-clause-err
returns-clause-err g c = loses_map _ _ c.send.result c.send.ensures.err (λ written from n events was. last_lost n _ _ _ _ events was written)
