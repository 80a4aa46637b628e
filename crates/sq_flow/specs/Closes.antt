-- What is closed before a tuple of a later epoch.
use Rattle.std.specs.Prelude.{◌≡◌, ◌==◌, ℕ, ◌+◌, ◌-◌, ◌≤◌, ◌<◌, List, ◌++◌, length, replicate, if◌then◌else◌}
use Rattle.std.specs.List.{flat_map, range_with_len}
use Rattle.sq_words.specs.Lists.{IsPrefixOf}
use Rattle.sq_road.specs.Levels.{LevelTable, level_of, AgreesWith}
use Rattle.sq_plan.specs.Plans.{Setting}
use Rattle.sq_plan.specs.PlanRows.{level_for, shown_after, Ended}
use Rattle.sq_oper.specs.declared.outs.Event.{Event}
use Rattle.sq_flow.specs.Events.{lines_of, drops_of, ShowsIn}
use Rattle.sq_flow.specs.Plans.{plans_of}

-- epochs before one were closed, or none: the levels of those that were closed stay, the others are those that the counts plan, and no
-- tuple and no decision was shown
pub record ClosesSome (planner planner' : Setting) (levels levels' : LevelTable) (before : List ℕ) (next : ℕ) (events events' : List Event) : Type 0 where
  pub same : planner' ≡ planner
  pub epoch : levels'.epoch ≡ levels.epoch
  pub grows : levels.closed ≤ levels'.closed
  pub keeps : (x w : ℕ) → x < levels.closed → level_of levels' x w ≡ level_of levels x w
  pub agrees : (all : ℕ → List ℕ) → (levels.closed < next + 1 → Ended all (levels.closed - 1) next before)
      → AgreesWith levels (level_for planner all) → AgreesWith levels' (level_for planner all)
  pub lines : (o : ℕ) → lines_of o events' ≡ lines_of o events
  pub drops : (w : ℕ) → drops_of w events' ≡ drops_of w events
  pub within : (outputs drops : ℕ) → ShowsIn outputs drops events events'
  pub stay : IsPrefixOf events events'

-- all were closed, and the plan that follows was shown. The counts begin anew with an epoch
pub record ClosesAll (planner : Setting) (levels levels' : LevelTable) (before after : List ℕ) (next : ℕ) (events events' : List Event) : Type 0 where
  pub closed : levels'.closed ≡ next + 1
  pub counts : after ≡ (if next + 1 == levels.closed then before else replicate (length before) 0)
  pub plans : (all : ℕ → List ℕ) → (levels.closed < next + 1 → Ended all (levels.closed - 1) next before)
      → plans_of events' ≡ plans_of events ++ flat_map (shown_after planner all) (range_with_len (levels.closed - 1) (next - (levels.closed - 1)))
