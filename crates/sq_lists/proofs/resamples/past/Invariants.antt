use Rattle.std.proofs.Common.{◌≡◌, drop}
use Rattle.sq_lists.specs.Sides.{recent}
use Rattle.sq_lists.proofs.resamples.past.Given as goal

abbrev pub invariant-loop-i : goal.invariant-loop-i
invariant-loop-i l = recent l.size l.time (drop l.i l.tuples) ≡ recent l.size l.time l.tuples
