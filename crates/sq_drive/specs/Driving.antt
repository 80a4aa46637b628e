-- What a run shows on its way: a history of events, whose lines are written one after another.
use Rattle.std.specs.Prelude.{◌≡◌, ◌≢◌, ℕ, ◌+◌, ◌^◌, ◌<◌, ◌≤◌, Bool, true, false, List, ◌++◌, length, Option}
use Rattle.std.specs.List.{AllByRecursion}
use Rattle.sq_words.specs.Lists.{IsPrefixOf}
use Rattle.sq_outside.specs.Disks.{Pages}
use Rattle.sq_outside.specs.Faults.{Rose}
use Rattle.sq_outside.specs.Sinks.{AppendsPrefix, appended}
use Rattle.sq_net.specs.declared.Network.{Network}
use Rattle.sq_oper.specs.declared.outs.Event.{Event}
use Rattle.sq_model.specs.Shedding.{Replay}
use Rattle.sq_pool.specs.Trust.{Tells}
use Rattle.sq_road.specs.Levels.{AgreesWith}
use Rattle.sq_plan.specs.PlanRows.{level_for}
use Rattle.sq_flow.specs.Events.{drops_of, lines_of}
use Rattle.sq_flow.specs.Engines.{AllDone}
use Rattle.sq_flow.specs.Flows.{HoldsItems, decisions_left, items_in, lines_left}
use Rattle.sq_flow.specs.Plans.{IsPlanned, plans_left, plans_of}
use Rattle.sq_core.specs.declared.engine.Engine.{Engine}
use Rattle.sq_core.specs.Meanings.{actors}
use Rattle.sq_core.specs.Runs.{IsSoundEngine, fed_at, late_at_seat, flow_of}
use Rattle.sq_status.specs.declared.Status.{Status}
use Rattle.sq_status.specs.declared.Status.TheVariants as status
use Rattle.sq_points.specs.Points.{drops_in}
use Rattle.sq_due.specs.Histories.{IsEventAt, history_text}
use Rattle.sq_due.specs.Due.{Answer, answer_in, fed_in, late_counts, turns_in, work_in}
use Rattle.sq_drive.specs.Failing.{TookNeeded, WentOn}
use Rattle.sq_status.specs.StatusKinds.{is_refusal, is_changed, is_garbled}

-- of each output, of each drop and of the plans a history has all, in order
pub record Completes (n : Network) (a : Answer) (history : List Event) : Type 0 where
  pub lines : (o : ℕ) → o < length n.outputs → lines_of o history ≡ a.tuples o
  pub drops : (w : ℕ) → w < drops_in n → drops_of w history ≡ a.decisions w
  pub plans : plans_of history ≡ a.plans

-- and of each it has the first
pub record BeginsAnswer (n : Network) (a : Answer) (history : List Event) : Type 0 where
  pub lines : (o : ℕ) → o < length n.outputs → IsPrefixOf (lines_of o history) (a.tuples o)
  pub drops : (w : ℕ) → w < drops_in n → IsPrefixOf (drops_of w history) (a.decisions w)
  pub plans : IsPrefixOf (plans_of history) a.plans

-- an engine that has shown a history came to its end: what was written is the text of the events that make the history the whole
-- answer, each box was fed what it takes, at each port the tuples that are still needed of the arc there, and the steps are the work, all
-- since nothing was fed
pub record IsDriven (r : Replay) (history : List Event) (engine : Engine) (before now : Option (List ℕ)) (begun steps : ℕ) : Type 0 where
  pub events : List Event
  pub shown : AllByRecursion (IsEventAt r.network) events
  pub all : Completes r.network (answer_in r) (history ++ events)
  pub written : now ≡ appended before (history_text r.network events)
  pub took : TookNeeded r engine
  pub fed : (at : ℕ) → at < length r.network.boxes → fed_at engine at ≡ fed_in r at
  pub late : (at : ℕ) → at < length r.network.boxes → late_at_seat engine at ≡ late_counts r at
  pub work : steps ≡ begun + work_in r

-- a run stopped, over a disk that is known then: its history shows the first of the answer, the steps are no more than the work, an honest
-- disk changed no page, a page that came back changed was garbled, and too much was to be fed only where the turns are too many
pub record StoppedWith (honest : Bool) (r : Replay) (history : List Event) (begun steps : ℕ) (result : Status) : Type 0 where
  pub first : BeginsAnswer r.network (answer_in r) history
  pub work : steps ≤ begun + work_in r
  pub unchanged : honest ≡ true → is_changed result ≡ false
  pub garbled : is_changed result ≡ true → is_garbled result ≡ true
  pub too_much : result ≡ status.TooMuch → 2 ^ 62 ≤ turns_in r

-- an engine that has shown a history stopped on its way: what was written begins the text of events with which the run stopped behind it
pub record IsHalted (honest : Bool) (r : Replay) (history : List Event) (result : Status) (before now : Option (List ℕ)) (begun steps : ℕ) : Type 0 where
  pub events : List Event
  pub shown : AllByRecursion (IsEventAt r.network) events
  pub written : AppendsPrefix before now (history_text r.network events)
  pub stopped : StoppedWith honest r (history ++ events) begun steps result

-- what was begun is cut short: by no refusal, and by a fault of the sink only where its count rose
pub record IsCutShort (faults_before faults_now : ℕ) (result : Status) : Type 0 where
  pub begun : is_refusal result ≡ false
  pub no_end : result ≢ status.Ok
  pub sink : result ≡ status.SinkFault → Rose faults_before faults_now

-- an engine came to its end by steps that ended well: sound, of the same network, and all its actors are finished
pub record HasEnded (was is : Option Pages) (from to : Engine) : Type 0 where
  pub went : WentOn was is from to
  pub network : to.network ≡ from.network
  pub sound : IsSoundEngine to
  pub done : AllDone (flow_of to)

-- these events show exactly what was pending of an engine that came to its end. Its plans over every disk; where the disk is known, at every
-- table of levels that agrees with those of the closed epochs, the lines of each output and the decisions of each drop
pub record IsRestOf (was is : Option Pages) (from to : Engine) (events : List Event) : Type 0 where
  pub plans : plans_of events ≡ plans_left (flow_of from)
  pub lines : Tells is → (table : ℕ → ℕ → ℕ) → AgreesWith (flow_of to).levels table → HoldsItems actors table (items_in (flow_of from) was) (flow_of from)
      → (o : ℕ) → o < length from.network.outputs → lines_of o events ≡ lines_left actors table (items_in (flow_of from) was) (flow_of from) o
  pub drops : Tells is → (table : ℕ → ℕ → ℕ) → AgreesWith (flow_of to).levels table → HoldsItems actors table (items_in (flow_of from) was) (flow_of from)
      → (w : ℕ) → w < drops_in from.network
      → drops_of w events ≡ decisions_left actors table (items_in (flow_of from) was) (flow_of from) ((flow_of from).wires.sheds + w)

-- and their text was written
pub record WritesRest (was is : Option Pages) (from to : Engine) (before now : Option (List ℕ)) : Type 0 where
  pub events : List Event
  pub shown : AllByRecursion (IsEventAt from.network) events
  pub written : now ≡ appended before (history_text from.network events)
  pub rest : IsRestOf was is from to events

-- an engine stopped on its way: a beginning of the text of events was written that show the first of what was pending of it, at the levels that
-- the plans of all that arrives give
pub record WritesFirst (was is : Option Pages) (from : Engine) (before now : Option (List ℕ)) : Type 0 where
  pub events : List Event
  pub shown : AllByRecursion (IsEventAt from.network) events
  pub written : AppendsPrefix before now (history_text from.network events)
  pub plans : IsPrefixOf (plans_of events) (plans_left (flow_of from))
  pub lines : Tells is → (all : ℕ → List ℕ) → IsPlanned all (flow_of from)
      → HoldsItems actors (level_for (flow_of from).planner all) (items_in (flow_of from) was) (flow_of from) → (o : ℕ) → o < length from.network.outputs
      → IsPrefixOf (lines_of o events) (lines_left actors (level_for (flow_of from).planner all) (items_in (flow_of from) was) (flow_of from) o)
  pub drops : Tells is → (all : ℕ → List ℕ) → IsPlanned all (flow_of from)
      → HoldsItems actors (level_for (flow_of from).planner all) (items_in (flow_of from) was) (flow_of from) → (w : ℕ) → w < drops_in from.network
      → IsPrefixOf (drops_of w events) (decisions_left actors (level_for (flow_of from).planner all) (items_in (flow_of from) was) (flow_of from) ((flow_of from).wires.sheds + w))
