use Rattle.std.proofs.Common.{◌≡◌, ◌++◌, drop, take}
use Rattle.sq_lists.specs.Nearness.{reaching}
use Rattle.sq_lists.proofs.resamples.reach.Given as goal

abbrev pub invariant-loop-i : goal.invariant-loop-i
invariant-loop-i l = take l.i l.tuples ++ reaching l.size l.time (drop l.i l.tuples) ≡ reaching l.size l.time l.tuples
