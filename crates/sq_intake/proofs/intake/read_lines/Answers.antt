use Rattle.std.proofs.Common.{arith, drop, length, ◌<◌, ◌≡◌, ◌+◌, ◌++◌, ◌∷◌, [], sym, ap, ◌∙◌, Some, Ok}
use Rattle.std.proofs.lemmas.List.{append-nil, length-append}
use Rattle.std.specs.List.{cons_option}
use Rattle.sq_intake.specs.Incoming.{bare_line, brings, incoming, told}
use Rattle.sq_intake.proofs.IncomingLemmas.{ahead_on, brings_at_once, line_steps, moved_bad, moved_on, prefix_push}
use Rattle.sq_replay.proofs.StreamLemmas.{pushed}
use Rattle.sq_intake.proofs.intake.read_lines.Goals as goal

pub lines-preserved-in-Ok-Some : goal.lines-preserved-in-Ok-Some
lines-preserved-in-Ok-Some c =
    let ks = c.args.kinds.now in
    let text = c.args.text.now in
    let l = c.lines in
    let read = rw c.in-Ok-Some.field-0-is at c.in-Ok-Some.ensures in
    let inside : l.at < length text = omega arith in
    let step = line_steps text read.line l.at (c.read_at_once.new.end + 1) c.requires.whole inside read.pieces in
    let one : c.push.new.self.items ≡ l.tuples.items ++ c.in-Ok-Some.tuple ∷ [] =
    pushed c.push.result l.tuples.items c.push.new.self.items c.in-Ok-Some.tuple c.push.ensures.items c.if-is_err.ensures.value in
    record {
      so_far =
          moved_on ks c.args.latest c.args.passed text c.args.from c.args.tuples.now.items l.latest l.passed l.at l.tuples.items read.line (c.read_at_once.new.end + 1) c.in-Ok-Some.tuple.time c.in-Some.number (Some c.in-Ok-Some.tuple)
          c.push.new.self.items l.invariant.so_far step (brings_at_once ks l.latest l.passed text l.at c.in-Ok-Some.tuple c.read_at_once.new.end c.if-passed-gt0.true read) c.in-Some.ensures.1 one;
      within = step.within;
      forward = omega (arith, read.ahead, l.invariant.forward);
      still = λ is. absurd (omega (arith, is, read.ahead, l.invariant.forward));
      behind = prefix_push c.args.tuples.now.items l.tuples.items c.push.new.self.items c.in-Ok-Some.tuple l.invariant.behind one;
      few = let longer = ap length one in omega (arith, length-append l.tuples.items (c.in-Ok-Some.tuple ∷ []), longer, l.invariant.few);
      ahead = λ none.
          ahead_on ks l.latest c.in-Ok-Some.tuple.time (bare_line (l.passed + 1) read.line) (Some c.in-Ok-Some.tuple) l.tuples.items c.push.new.self.items
          (brings_at_once ks l.latest l.passed text l.at c.in-Ok-Some.tuple c.read_at_once.new.end c.if-passed-gt0.true read) one (l.invariant.ahead none);
    }

pub lines-preserved-else-is_err-2 : goal.lines-preserved-else-is_err-2
lines-preserved-else-is_err-2 c =
    let ks = c.args.kinds.now in
    let text = c.args.text.now in
    let l = c.lines in
    let piece = c.piece_at-next.result.0.now in
    let next = c.piece_at-next.result.1 in
    let new = c.push-in-Some-brought.new.self.items in
    let inside : l.at < length text = omega arith in
    let step = line_steps text piece l.at next c.requires.whole inside c.piece_at-next.ensures.pieces in
    let bare : c.bare_line-line.result.now ≡ bare_line c.in-Some.number piece = c.bare_line-line.ensures in
    let brought : brings ks l.latest c.bare_line-line.result.now ≡ Ok (c.in-Ok.brought, c.in-Ok.later) = c.in-Ok.ensures.brings in
    let is : c.in-Ok.brought ≡ Some c.in-Some-brought.tuple = c.in-Some-brought.is in
    let line : bare_line (l.passed + 1) piece ≡ c.bare_line-line.result.now = ap (λ n. bare_line n piece) (sym c.in-Some.ensures.1) ∙ sym bare in
    let one : new ≡ l.tuples.items ++ c.in-Some-brought.tuple ∷ [] =
    pushed c.push-in-Some-brought.result l.tuples.items new c.in-Some-brought.tuple c.push-in-Some-brought.ensures.items c.if-is_err-2.ensures.value in
    record {
      so_far =
          moved_on ks c.args.latest c.args.passed text c.args.from c.args.tuples.now.items l.latest l.passed l.at l.tuples.items piece next c.in-Ok.later c.in-Some.number c.in-Ok.brought new l.invariant.so_far step
          (ap (brings ks l.latest) line ∙ brought) c.in-Some.ensures.1 (one ∙ ap (λ o. l.tuples.items ++ cons_option o []) (sym is));
      within = step.within;
      forward = omega (arith, c.piece_at-next.ensures.further, l.invariant.forward);
      still = λ is. absurd (omega (arith, is, c.piece_at-next.ensures.further, l.invariant.forward));
      behind = prefix_push c.args.tuples.now.items l.tuples.items new c.in-Some-brought.tuple l.invariant.behind one;
      few = let longer = ap length one in omega (arith, length-append l.tuples.items (c.in-Some-brought.tuple ∷ []), longer, l.invariant.few);
      ahead = λ none.
          ahead_on ks l.latest c.in-Ok.later c.bare_line-line.result.now c.in-Ok.brought l.tuples.items new brought (one ∙ ap (λ o. l.tuples.items ++ cons_option o []) (sym is)) (l.invariant.ahead none);
    }

pub lines-preserved : goal.lines-preserved
lines-preserved c =
    let ks = c.args.kinds.now in
    let text = c.args.text.now in
    let l = c.lines in
    let piece = c.piece_at-next.result.0.now in
    let next = c.piece_at-next.result.1 in
    let inside : l.at < length text = omega arith in
    let step = line_steps text piece l.at next c.requires.whole inside c.piece_at-next.ensures.pieces in
    let line : bare_line (l.passed + 1) piece ≡ c.bare_line-line.result.now = ap (λ n. bare_line n piece) (sym c.in-Some.ensures.1) ∙ sym c.bare_line-line.ensures in
    record {
      so_far =
          moved_on ks c.args.latest c.args.passed text c.args.from c.args.tuples.now.items l.latest l.passed l.at l.tuples.items piece next c.in-Ok.later c.in-Some.number c.in-Ok.brought l.tuples.items l.invariant.so_far step
          (ap (brings ks l.latest) line ∙ c.in-Ok.ensures.brings) c.in-Some.ensures.1 (sym (append-nil l.tuples.items) ∙ ap (λ o. l.tuples.items ++ cons_option o []) (sym c.in_default-brought.is));
      within = step.within;
      forward = omega (arith, c.piece_at-next.ensures.further, l.invariant.forward);
      still = λ is. absurd (omega (arith, is, c.piece_at-next.ensures.further, l.invariant.forward));
      behind = l.invariant.behind;
      few = l.invariant.few;
      ahead = λ none.
          ahead_on ks l.latest c.in-Ok.later c.bare_line-line.result.now c.in-Ok.brought l.tuples.items l.tuples.items c.in-Ok.ensures.brings
          (sym (append-nil l.tuples.items) ∙ ap (λ o. l.tuples.items ++ cons_option o []) (sym c.in_default-brought.is)) (l.invariant.ahead none);
    }

pub returns-in_default-clause-bad : goal.returns-in_default-clause-bad
returns-in_default-clause-bad c =
    let l = c.lines in
    (incoming c.args.kinds.now l.latest l.passed (drop l.at c.args.text.now), l.invariant.so_far, omega (arith, c.in_default.ensures))

pub returns-in-Err-Bad-clause-bad : goal.returns-in-Err-Bad-clause-bad
returns-in-Err-Bad-clause-bad c rest =
    let ks = c.args.kinds.now in
    let text = c.args.text.now in
    let l = c.lines in
    let piece = c.piece_at-next.result.0.now in
    let next = c.piece_at-next.result.1 in
    let inside : l.at < length text = omega arith in
    let step = line_steps text piece l.at next c.requires.whole inside c.piece_at-next.ensures.pieces in
    let line : bare_line (l.passed + 1) piece ≡ c.bare_line-line.result.now = ap (λ n. bare_line n piece) (sym c.in-Some.ensures.1) ∙ sym c.bare_line-line.ensures in
    let refused = rw c.in-Err-Bad.field-0-is at c.in-Err-Bad.ensures.refused in
    moved_bad ks c.args.latest c.args.passed text c.args.from c.args.tuples.now.items l.latest l.passed l.at l.tuples.items piece next c.in-Some.number c.in-Err-Bad.why l.invariant.so_far step
    (ap (brings ks l.latest) line ∙ refused) c.in-Some.ensures.1 rest
    ∙ ap (λ w. told l.tuples.items (Some (c.in-Some.number, w))) (sym c.in-Err-Bad.why-is)
