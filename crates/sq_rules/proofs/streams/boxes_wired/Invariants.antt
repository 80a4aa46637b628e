use Rattle.std.proofs.Common.{◌≡◌, ◌++◌, drop, map}
use Rattle.sq_rules.specs.Streaming.{box_wires, number_named}
use Rattle.sq_rules.proofs.streams.boxes_wired.Given as goal

abbrev pub invariant-loop-b : goal.invariant-loop-b
invariant-loop-b l =
    l.wired.items ++ map (box_wires (number_named l.numbers.entries)) (drop l.b-index l.boxes) ≡ map (box_wires (number_named l.numbers.entries)) l.boxes
