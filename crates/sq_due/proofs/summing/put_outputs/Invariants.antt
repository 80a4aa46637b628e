use Rattle.std.proofs.Common.{◌≡◌, ◌++◌, take}
use Rattle.std.specs.List.{flat_map, zip}
use Rattle.sq_due.specs.Summaries.{output_count}
use Rattle.sq_due.proofs.summing.put_outputs.Given as goal

abbrev pub invariant-outputs : goal.invariant-outputs
invariant-outputs l = l.text.items ≡ l.fn.text.items ++ flat_map output_count (take l.i (zip l.outputs l.lines))
