use Rattle.std.proofs.Common.{◌≡◌, ◌<◌, sym, length, arith}
use Rattle.std.proofs.lemmas.Bool.Decides.{nat_tests}
use Rattle.sq_replay.proofs.RecordedLemmas.{line_next, line_none, line_tested}
use Rattle.sq_replay.proofs.stream.test_line.Goals as goal

pub returns-in-Ok-Some-clause-told : goal.returns-in-Ok-Some-clause-told
returns-in-Ok-Some-clause-told c =
    let read = rw c.in-Ok-Some.field-0-is at c.in-Ok-Some.ensures in
    line_tested c.args.kinds.now c.args.count c.args.latest c.args.text.now c.args.at (record { time = c.in-Ok-Some.time; fields = read.0 }) c.in-Ok-Some.end
    c.if-count-lt-TUPLES.true read.1

pub returns-in-Ok-Some-clause-further : goal.returns-in-Ok-Some-clause-further
returns-in-Ok-Some-clause-further c = let read = rw c.in-Ok-Some.field-0-is at c.in-Ok-Some.ensures in omega (arith, read.1.ahead)

pub returns-then-is_empty-clause-told : goal.returns-then-is_empty-clause-told
returns-then-is_empty-clause-told c =
    let line = c.without_return-line.result.now in
    let none : length line ≡ 0 = grind (arith, nat_tests, c.is_empty.ensures, c.if-is_empty.true) in
    line_none c.args.text.now c.piece_at-next.result.0.now line c.args.at c.piece_at-next.result.1 c.piece_at-next.ensures.pieces (sym c.without_return-line.ensures) none

pub returns-in-Ok-clause-told : goal.returns-in-Ok-clause-told
returns-in-Ok-clause-told c =
    let line = c.without_return-line.result.now in
    let some : 0 < length line = grind (arith, nat_tests, c.is_empty.ensures, c.if-is_empty.false) in (
      line,
      line_next c.args.text.now c.piece_at-next.result.0.now line c.args.at c.piece_at-next.result.1 c.piece_at-next.ensures.pieces (sym c.without_return-line.ensures) some,
      c.in-Ok.ensures.tuple,
    )
