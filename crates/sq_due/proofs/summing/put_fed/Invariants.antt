use Rattle.std.proofs.Common.{◌≡◌, ◌++◌, take}
use Rattle.std.specs.List.{flat_map, zip}
use Rattle.sq_due.specs.Summaries.{fed_count}
use Rattle.sq_due.proofs.summing.put_fed.Given as goal

abbrev pub invariant-boxes : goal.invariant-boxes
invariant-boxes l = l.text.items ≡ l.fn.text.items ++ flat_map fed_count (take l.i (zip l.boxes l.fed))
