use Rattle.sq_replay.proofs.RecordedLemmas.{line_alone}
use Rattle.sq_replay.proofs.line.read_tuple.Goals as goal

pub returns-in-Ok-Some-clause-tuple : goal.returns-in-Ok-Some-clause-tuple
returns-in-Ok-Some-clause-tuple c =
    let read = rw c.in-Ok-Some.field-0-is at c.in-Ok-Some.ensures in
    line_alone c.args.kinds.now c.args.count c.args.latest c.args.line.now c.in-Ok-Some.tuple c.read_at_once.new.end c.if-count-ge-TUPLES.false c.if-end-line.true read
