use Rattle.std.proofs.Common.{◌≡◌, ◌∙◌, ◌+◌, [], sym, subst, ap, length, Some, None, arith, ◌≤◌}
use Rattle.sq_value.specs.Values.{kinds_of}
use Rattle.sq_replay.specs.Answers.{IsTested}
use Rattle.sq_replay.specs.FileLines.{lines_from, pieces_at, pieces_of, without_mark}
use Rattle.sq_replay.specs.Streams.{stream_in, tuples_from}
use Rattle.sq_replay.proofs.RecordedLemmas.{error_step, first_error, good_stream, pieces_past, pieces_start, unmarked_shorter}
use Rattle.sq_replay.proofs.stream.test_lines.Goals as goal

pub loop-at-init : goal.loop-at-init
loop-at-init c =
    let text = c.without_mark-text.result.now in
    let start : pieces_at text 0 ≡ pieces_of (without_mark c.args.bytes.now) = pieces_start text ∙ ap pieces_of c.without_mark-text.ensures in
    record {
      so_far = ap (λ ps. first_error (tuples_from (kinds_of c.args.schema.now) 0 0 (lines_from 1 ps))) start;
      shorter = subst (λ t. length t ≤ length c.args.bytes.now) (sym c.without_mark-text.ensures) (unmarked_shorter c.args.bytes.now);
      counted = omega arith;
      fewer = omega arith;
    }

pub loop-at-preserved : goal.loop-at-preserved
loop-at-preserved c =
    let l = c.loop-at in
    let ks = kinds_of c.args.schema.now in
    let text = c.without_mark-text.result.now in
    let next = c.in-Ok.next in
    let told : IsTested ks l.count l.latest text l.at (Some c.in-Some.time) next = rw (c.kinds-kinds.ensures, c.in-Some.is) at c.in-Ok.ensures.told in
    let one = error_step ks l.count l.latest (l.number + 1) told.0 (lines_from (l.number + 1 + 1) (pieces_at text next)) told.2.0 told.2.1 in
    let step = rw told.2.2 at one in
    record {
      so_far = sym step ∙ sym (ap (λ ls. first_error (tuples_from ks l.count l.latest ls)) (told.1 (l.number + 1))) ∙ l.invariant.so_far;
      shorter = l.invariant.shorter;
      counted = omega (arith, c.in-Ok.ensures.further, l.invariant.counted);
      fewer = omega (arith, l.invariant.fewer);
    }

pub returns-clause-tuples : goal.returns-clause-tuples
returns-clause-tuples c =
    let l = c.loop-at in
    let ks = kinds_of c.args.schema.now in
    let text = c.without_mark-text.result.now in
    let none : pieces_at text l.at ≡ [] = pieces_past text l.at (omega (arith, c.loop-at-test.false)) in
    let good : first_error (stream_in c.args.schema.now c.args.bytes.now) ≡ None =
    sym l.invariant.so_far ∙ ap (λ ps. first_error (tuples_from ks l.count l.latest (lines_from (l.number + 1) ps))) none in
    good_stream ks (pieces_of (without_mark c.args.bytes.now)) 1 0 0 good
