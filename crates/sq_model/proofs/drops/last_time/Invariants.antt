use Rattle.std.proofs.Common.{◌≡◌, max, drop}
use Rattle.sq_model.specs.Shedding.{last_of}
use Rattle.sq_model.proofs.drops.last_time.Given as goal

abbrev pub invariant-loop-x : goal.invariant-loop-x
invariant-loop-x l = max l.last (last_of (drop l.x-index l.tuples)) ≡ last_of l.tuples
