use Rattle.std.proofs.Common.{◌≡◌, ◌++◌, take}
use Rattle.std.specs.List.{flat_map, zip}
use Rattle.sq_lines.specs.RunLines.{fed_line}
use Rattle.sq_lines.proofs.shown.append_boxes.Given as goal

abbrev pub invariant-boxes : goal.invariant-boxes
invariant-boxes l = l.out.items ≡ l.fn.out.items ++ flat_map fed_line (take l.i (zip l.boxes l.fed))
