use Rattle.std.proofs.Common.{◌≡◌, ◌∙◌, ◌<◌, sym, length, arith}
use Rattle.std.proofs.lemmas.Bool.Decides.{nat_tests}
use Rattle.sq_replay.proofs.RecordedLemmas.{recorded_next, recorded_none, recorded_past}
use Rattle.sq_replay.proofs.unread.next_line.Goals as goal

pub loop-next-preserved : goal.loop-next-preserved
loop-next-preserved c =
    let l = c.loop-next in
    let text = c.args.text.now in
    let line = c.without_return-line.result.now in
    let none : length line ≡ 0 = grind (arith, nat_tests, c.is_empty.ensures, c.if-not-is_empty.false) in
    record {
      same = λ ks latest.
          sym (recorded_none text c.piece_at-behind.result.0.now line l.next c.piece_at-behind.result.1 c.piece_at-behind.ensures.pieces (sym c.without_return-line.ensures) none ks latest)
          ∙ l.invariant.same ks latest;
      further = omega (arith, l.invariant.further, c.piece_at-behind.ensures.further);
    }

pub returns-then-not-is_empty-clause-line : goal.returns-then-not-is_empty-clause-line
returns-then-not-is_empty-clause-line c ks latest =
    let l = c.loop-next in
    let text = c.args.text.now in
    let line = c.without_return-line.result.now in
    let some : 0 < length line = grind (arith, nat_tests, c.is_empty.ensures, c.if-not-is_empty.true) in
    sym (l.invariant.same ks latest)
    ∙ recorded_next text c.piece_at-behind.result.0.now line l.next c.piece_at-behind.result.1 c.piece_at-behind.ensures.pieces (sym c.without_return-line.ensures) some ks latest

pub returns-clause-line : goal.returns-clause-line
returns-clause-line c ks latest =
    let l = c.loop-next in
    sym (l.invariant.same ks latest) ∙ recorded_past ks latest c.args.text.now l.next (omega (arith, c.loop-next-test.false))
