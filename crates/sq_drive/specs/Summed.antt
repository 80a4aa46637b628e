-- What a run that counts its lines knows at its end.
use Rattle.std.specs.Prelude.{◌≡◌, ℕ, ◌+◌, ◌<◌, length, map}
use Rattle.sq_words.specs.Lists.{numbers_to}
use Rattle.sq_model.specs.Shedding.{Replay}
use Rattle.sq_points.specs.Points.{drops_in}
use Rattle.sq_core.specs.declared.engine.Engine.{Engine}
use Rattle.sq_core.specs.Runs.{fed_at, late_at_seat}
use Rattle.sq_due.specs.declared.counting.Counts.{Counts}
use Rattle.sq_due.specs.Due.{answer_in, fed_in, late_counts, work_in}
use Rattle.sq_drive.specs.Failing.{TookNeeded}

-- a run came to its end: the counts are those of its answer, each box was fed what it takes, at each port the tuples that are still needed
-- of the arc there, and the steps are the work
pub record IsSummed (r : Replay) (engine : Engine) (counts : Counts) (begun steps : ℕ) : Type 0 where
  pub lines : counts.lines.items ≡ map (λ o. length ((answer_in r).tuples o)) (numbers_to (length r.network.outputs))
  pub drops : counts.drops.items ≡ map (λ w. length ((answer_in r).decisions w)) (numbers_to (drops_in r.network))
  pub took : TookNeeded r engine
  pub fed : (at : ℕ) → at < length r.network.boxes → fed_at engine at ≡ fed_in r at
  pub late : (at : ℕ) → at < length r.network.boxes → late_at_seat engine at ≡ late_counts r at
  pub work : steps ≡ begun + work_in r
