use Rattle.std.proofs.Common.{◌≡◌, ◌+◌, drop}
use Rattle.sq_lists.specs.WindowParts.{leading}
use Rattle.sq_lists.proofs.windows.leading.Given as goal

abbrev pub invariant-loop-i : goal.invariant-loop-i
invariant-loop-i l = leading l.end l.tuples ≡ l.i + leading l.end (drop l.i l.tuples)
