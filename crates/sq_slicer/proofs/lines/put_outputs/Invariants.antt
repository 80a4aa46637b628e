use Rattle.std.proofs.Common.{◌≡◌, ◌++◌, drop}
use Rattle.sq_slicer.specs.Lines.{reach_lines}
use Rattle.sq_slicer.proofs.lines.put_outputs.Given as goal

abbrev pub invariant-loop-i : goal.invariant-loop-i
invariant-loop-i l = l.text.items ++ reach_lines (drop l.i l.outputs) (drop l.i l.reaches) ≡ l.fn.text.items ++ reach_lines l.outputs l.reaches
