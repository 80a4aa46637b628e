use Rattle.std.proofs.Common.{◌≡◌, drop}
use Rattle.sq_rules.specs.Streaming as streaming
use Rattle.sq_rules.proofs.streams.unknown_in_boxes.Given as goal

abbrev pub invariant-loop-number : goal.invariant-loop-number
invariant-loop-number l =
    streaming.unknown_in_boxes (streaming.number_named l.numbers.entries) l.number (drop l.number l.boxes)
    ≡ streaming.unknown_in_boxes (streaming.number_named l.numbers.entries) 0 l.boxes
