use Rattle.std.proofs.Common.{◌∙◌, ap}
use Rattle.sq_replay.specs.FileLines.{pieces_of}
use Rattle.sq_replay.specs.RecordedTuples.{tuples_left}
use Rattle.sq_replay.proofs.RecordedLemmas.{pieces_here}
use Rattle.sq_replay.proofs.unread.Unread.new.Goals as goal

pub returns : goal.returns
returns c =
    let at = c.mark_length-at.result in
    let mark = rw c.deref.ensures.value at c.mark_length-at.ensures.mark in
    let within = rw c.deref.ensures.value at c.mark_length-at.ensures.within in
    rw c.in_ok-kinds.ensures.items (ap (λ ps. tuples_left c.args.kinds.now 0 ps) (pieces_here c.args.text.items at within ∙ ap pieces_of mark))
