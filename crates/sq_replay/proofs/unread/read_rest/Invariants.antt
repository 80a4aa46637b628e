use Rattle.std.proofs.Common.{◌≡◌, ◌+◌, ◌-◌, ◌++◌, length}
use Rattle.sq_replay.specs.RecordedTuples.{tuples_recorded}
use Rattle.sq_replay.proofs.unread.read_rest.Given as goal

abbrev pub invariant-loop-line : goal.invariant-loop-line
invariant-loop-line l = l.tuples.items ++ tuples_recorded l.kinds l.latest l.text l.at ≡ l.fn.tuples.items ++ tuples_recorded l.kinds l.fn.after l.text l.fn.from

abbrev pub decreases-loop-line : goal.decreases-loop-line
decreases-loop-line l = length l.text + 1 - l.at
