use Rattle.std.proofs.Common.{◌≡◌, ◌++◌, drop, map}
use Rattle.sq_slices.specs.Reaches.{reach_numbered}
use Rattle.sq_slices.proofs.rounds.taken_reaches.Given as goal

abbrev pub invariant-loop-stream : goal.invariant-loop-stream
invariant-loop-stream l = map (reach_numbered l.reaches) l.inputs ≡ l.taken.items ++ map (reach_numbered l.reaches) (drop l.stream-index l.inputs)
