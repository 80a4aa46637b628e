use Rattle.std.proofs.Common.{refl}
use Rattle.sq_value.specs.declared.Tuple.{Tuple}
use Rattle.sq_replay.proofs.RecordedLemmas.{line_alone}
use Rattle.sq_replay.proofs.stream.test_alone.Goals as goal

pub returns-in-Ok-Some-clause-tuple : goal.returns-in-Ok-Some-clause-tuple
returns-in-Ok-Some-clause-tuple c =
    let read = rw c.in-Ok-Some.field-0-is at c.in-Ok-Some.ensures in
    let x : Tuple = record { time = c.in-Ok-Some.time; fields = read.0 } in
    (x, line_alone c.args.kinds.now c.args.count c.args.latest c.args.line.now x c.in-Ok-Some.end c.if-count-lt-TUPLES.true c.if-end-line.true read.1, refl)
