-- The plans of a run: what was shown of them, and what is left.
--     counts_of flow e      of each source, the tuples of epoch e that are counted or still to be released
--     IsPlanned all flow    where `all` are the tuples of each source in every epoch, the levels of the closed epochs are planned from them
--     plans_left flow       the plans still to be shown
use Rattle.std.specs.Prelude.{◌≡◌, ℕ, ◌+◌, ◌-◌, ◌/◌, ◌≤◌, ◌==◌, if◌then◌else◌, List, [], ◌∷◌, ◌++◌, map}
use Rattle.std.specs.List.{flat_map, range_with_len}
use Rattle.sq_value.specs.declared.Tuple.{Tuple}
use Rattle.sq_words.specs.Lists.{max_by, IsPrefixOf}
use Rattle.sq_road.specs.Levels.{LevelTable, AgreesWith}
use Rattle.sq_plan.specs.declared.closing.Shown.{Shown}
use Rattle.sq_plan.specs.Arrivals.{arrivals}
use Rattle.sq_plan.specs.PlanRows.{level_for, shown_after}
use Rattle.sq_oper.specs.declared.outs.Event.{Event}
use Rattle.sq_oper.specs.declared.outs.Event.TheVariants.{Line, Dropped, Plan}
use Rattle.sq_flow.specs.declared.flow.Flow.{Flow}

-- the last epoch in which a tuple arrives
abbrev pub last_arrival : ℕ → List (List Tuple) → ℕ
last_arrival epoch streams = max_by (λ xs. max_by (λ x. x.time / epoch) xs) streams

-- two lists of counts as one
abbrev pub add_counts : List ℕ → List ℕ → List ℕ
add_counts [] ys = ys
add_counts (x ∷ xs) [] = x ∷ xs
add_counts (x ∷ xs) (y ∷ ys) = (x + y) ∷ add_counts xs ys

-- what is still to be released, source by source
abbrev pub streams_left : {O : Type 0} → Flow O → List (List Tuple)
streams_left flow = map (λ tuples. tuples.items) flow.sources.items

-- the tuples of an epoch that are counted: those of the epoch that is open
abbrev pub counts_closing : {O : Type 0} → Flow O → ℕ → List ℕ
counts_closing flow e = if e + 1 == flow.levels.closed then flow.counts.items else []

abbrev pub counts_of : {O : Type 0} → Flow O → ℕ → List ℕ
counts_of flow e = add_counts (counts_closing flow e) (arrivals flow.levels.epoch (streams_left flow) e)

pub record IsPlanned {O : Type 0} (all : ℕ → List ℕ) (flow : Flow O) : Type 0 where
  pub agrees : AgreesWith flow.levels (level_for flow.planner all)
  pub counts : (e : ℕ) → flow.levels.closed ≤ e + 1 → all e ≡ counts_of flow e

-- the plans behind the epochs that aren't closed, up to the last in which a tuple is to be released
abbrev pub plans_left : {O : Type 0} → Flow O → List Shown
plans_left flow =
    let open_epoch = flow.levels.closed - 1 in
    flat_map (shown_after flow.planner (counts_of flow)) (range_with_len open_epoch (last_arrival flow.levels.epoch (streams_left flow) - open_epoch))

-- the plans that were shown
abbrev pub plan_in : Event → List Shown
plan_in (Line output tuple) = []
plan_in (Dropped d) = []
plan_in (Plan epoch load capacity saved fits) = record { epoch = epoch; load = load; capacity = capacity; saved = saved; fits = fits } ∷ []

abbrev pub plans_of : List Event → List Shown
plans_of [] = []
plans_of (e ∷ es) = plan_in e ++ plans_of es

-- the plans that a call that failed has shown are a beginning, and the levels that it closed are planned
pub record PlansPrefix {O : Type 0} (flow : Flow O) (levels : LevelTable) (events events' : List Event) : Type 0 where
  pub shown : IsPrefixOf (plans_of events') (plans_of events ++ plans_left flow)
  pub agrees : (all : ℕ → List ℕ) → IsPlanned all flow → AgreesWith levels (level_for flow.planner all)
