use Rattle.std.proofs.Common.{◌≡◌, ◌++◌, take}
use Rattle.std.specs.List.{flat_map, zip}
use Rattle.sq_lines.specs.RunLines.{late_text}
use Rattle.sq_lines.proofs.shown.append_lates.Given as goal

abbrev pub invariant-boxes : goal.invariant-boxes
invariant-boxes l = l.out.items ≡ l.fn.out.items ++ flat_map late_text (take l.i (zip l.boxes l.late))
