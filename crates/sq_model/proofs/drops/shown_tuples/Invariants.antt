use Rattle.std.proofs.Common.{◌≡◌, ◌++◌, drop}
use Rattle.sq_model.specs.GivenLevels.{shown_without}
use Rattle.sq_model.proofs.drops.shown_tuples.Given as goal

abbrev pub invariant-loop-x : goal.invariant-loop-x
invariant-loop-x l = l.fn.shown.items ++ shown_without l.p l.dropped l.full ≡ l.shown.items ++ shown_without l.p l.dropped (drop l.x-index l.full)
