use Rattle.std.proofs.Common.{◌≡◌, ◌-◌, ℕ, List, drop, length}
use Rattle.std.specs.List.{filter}
use Rattle.sq_wanted.specs.Showing.{is_left}
use Rattle.sq_wanted.specs.Places.{HoldRecord}
use Rattle.sq_wanted.proofs.skipping.next_place.Given as goal

abbrev pub invariant-loop-at : goal.invariant-loop-at
invariant-loop-at l =
    (record_at : ℕ → List ℕ) → HoldRecord l.sets record_at → filter (is_left record_at l.above) (drop l.from l.tuples) ≡ filter (is_left record_at l.above) (drop l.at l.tuples)

abbrev pub decreases-loop-at : goal.decreases-loop-at
decreases-loop-at l = length l.tuples - l.at
