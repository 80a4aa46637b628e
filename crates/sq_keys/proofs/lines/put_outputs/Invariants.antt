use Rattle.std.proofs.Common.{◌≡◌, ◌++◌, drop}
use Rattle.sq_keys.specs.Lines.{output_lines}
use Rattle.sq_keys.proofs.lines.put_outputs.Given as goal

abbrev pub invariant-loop-i : goal.invariant-loop-i
invariant-loop-i l = l.text.items ++ output_lines l.n l.cuts (drop l.i l.outputs) (drop l.i l.streams) ≡ l.fn.text.items ++ output_lines l.n l.cuts l.outputs l.streams
