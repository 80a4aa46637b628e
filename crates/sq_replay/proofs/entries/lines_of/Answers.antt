use Rattle.std.proofs.Common.{◌∙◌, ◌≤◌, sym, subst, ap, length, arith}
use Rattle.sq_replay.specs.FileLines.{lines_from, pieces_of}
use Rattle.sq_replay.proofs.RecordedLemmas.{pieces_start, unmarked_shorter}
use Rattle.sq_replay.proofs.entries.lines_of.Goals as goal

pub loop-at-init : goal.loop-at-init
loop-at-init c =
    let text = c.without_mark-text.result.now in
    record {
      so_far = rw c.new-lines.ensures.items (ap (λ ps. lines_from 1 ps) (pieces_start text ∙ ap pieces_of c.without_mark-text.ensures));
      shorter = subst (λ t. length t ≤ length c.args.bytes.now) (sym c.without_mark-text.ensures) (unmarked_shorter c.args.bytes.now);
      counted = omega arith;
    }
