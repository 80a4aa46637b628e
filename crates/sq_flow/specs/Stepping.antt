-- What the calls that take steps promise, between two moments of a run.
--     stage ..                 what stands at one moment
--     Proceeds m seat a b      calls of the actor at a seat that ended Ok lead from a to b
--     MayStep, HasNext, HasFeed    what a step asks
--     StepOk, StepWhole, TrainOk   one step, one that met no fault, and a train of steps
--     StepErr m a b e          a step, or a train, that failed with e
-- What is said of a flow is said of it where no more comes than is known, and again of it with whatever may come behind that.
use Rattle.std.specs.Prelude.{◌≡◌, ◌⊎◌, ℕ, ◌≤◌, ◌<◌, true, false, List, length, Option, None, slice_get}
use Rattle.sq_outside.specs.Disks.{DiskLog, Pages}
use Rattle.sq_outside.specs.declared.PageDisk.{Ghosts as DiskGhosts}
use Rattle.sq_words.specs.Lists.{IsPrefixOf}
use Rattle.sq_road.specs.Levels.{AgreesWith}
use Rattle.sq_oper.specs.declared.operator.Operator.{Ghosts}
use Rattle.sq_oper.specs.declared.outs.Event.{Event}
use Rattle.sq_pool.specs.Trust.{IsLater, known}
use Rattle.sq_queue.specs.Faces.{face, Together}
use Rattle.sq_heads.specs.declared.Next.{Next}
use Rattle.sq_heads.specs.declared.Next.TheVariants.{Feed}
use Rattle.sq_heads.specs.Heads.{NextUpTo}
use Rattle.sq_flow.specs.declared.flow.Flow.{Flow}
use Rattle.sq_flow.specs.declared.flow.Did.{Did}
use Rattle.sq_flow.specs.declared.steps.Progress.{Progress}
use Rattle.sq_flow.specs.declared.errors.RunErr.{RunErr}
use Rattle.sq_flow.specs.Flows.{Stepped, ShowsPrefix, NoneStrange, CostsFed, StepCosts, TooMuchOnly, IsFlow, Lowers, measure_of, taken_in_all}
use Rattle.sq_flow.specs.Plans.{PlansPrefix}
use Rattle.sq_flow.specs.Tails.{Tails, Whatever, with_tails}
use Rattle.sq_flow.specs.Causes.{IsCauseIn, IsFeedCause}
use Rattle.sq_flow.specs.Readiness.{IsReady, TouchesOnly, WaitsOnly, FallsBy, Took, TookBy}
use Rattle.sq_flow.specs.Seats.{done_at}
use Rattle.sq_flow.specs.Wiring.{arcs_read}

-- a run at one moment: its flow, what its disk has noted, and how often it has failed, what was shown, and the steps taken
pub record Stage (O : Type 0) : Type 0 where
  pub flow : Flow O
  pub log : DiskLog
  pub faults : ℕ
  pub events : List Event
  pub steps : ℕ

-- the moment as if all were known that comes
abbrev pub stage_on : {O : Type 0} → Tails → Stage O → Stage O
stage_on tails s = record s { flow = with_tails tails s.flow }

abbrev pub stage : {O D : Type 0} → DiskGhosts D → Flow O → D → List Event → ℕ → Stage O
stage tells flow disk events steps = record { flow = flow; log = tells.log disk; faults = tells.faults disk; events = events; steps = steps }

-- a sound flow, whose queues go with what is known of the pages
pub record Holds {O : Type 0} (m : Ghosts O) (e : Flow O) (was : Option Pages) : Type 0 where
  pub flow : IsFlow m e
  pub together : Together e.queues was

-- what a step asks: a sound flow whose queues go with the pages, and that no fault was met
pub record MayStep {O : Type 0} (m : Ghosts O) (e : Flow O) (was : Option Pages) (failed : Option RunErr) : Type 0 where
  pub holds : Holds m e was
  pub whole : failed ≡ None

-- an operator that isn't finished, and what comes next on the arcs that it reads
pub record HasNext {O : Type 0} (e : Flow O) (seat : ℕ) (next : Next) : Type 0 where
  pub actor_in : seat < length e.seats.items
  pub head : NextUpTo (arcs_read e.wires seat) (λ a. (face e.queues a).first) (λ a. (face e.queues a).ended) (length (arcs_read e.wires seat)) next
  pub running : done_at e.over (slice_get e.seats.items seat) ≡ false

-- and it is this arc's first item, at this port
pub record HasFeed {O : Type 0} (e : Flow O) (seat port arc : ℕ) : Type 0 where
  pub time : ℕ
  pub next : HasNext e seat (Feed time port arc)

-- what any call keeps: the disk forgets nothing, no count of faults falls, and nothing that was shown is taken back
pub record Remains {O : Type 0} (before after : Stage O) : Type 0 where
  pub faults : before.faults ≤ after.faults
  pub later : IsLater before.log after.log
  pub stay : IsPrefixOf before.events after.events

-- what was shown, and then what is left, stays the same
abbrev pub StepsTo : {O : Type 0} → Ghosts O → Stage O → Stage O → Type 0
StepsTo m before after = Stepped m (known before.log) (known after.log) before.flow after.flow before.events after.events

-- calls of one actor that ended Ok
pub record Proceeds {O : Type 0} (m : Ghosts O) (seat : ℕ) (before after : Stage O) : Type 0 where
  pub stepped : StepsTo m before after
  pub on : Whatever m before.flow (λ tails. StepsTo m (stage_on tails before) (stage_on tails after))
  pub keeps : Remains before after
  pub touches : TouchesOnly seat before.flow after.flow
  pub cost : CostsFed m before.flow after.flow before.steps after.steps

-- a step that ended Ok: what it did lowers the measure, and takes what such a step takes. It waits only where the actor isn't ready
pub record StepOk {O : Type 0} (m : Ghosts O) (seat : ℕ) (did : Did) (before after : Stage O) : Type 0 where
  pub moves : Proceeds m seat before after
  pub lowers : Lowers did (measure_of before.flow) (measure_of after.flow)
  pub took : TookBy seat did before.flow after.flow
  pub waits : WaitsOnly did ((IsReady before.flow seat → ⊥) × (after.flow ≡ before.flow))

-- and it met no fault
pub record StepWhole {O : Type 0} (m : Ghosts O) (seat : ℕ) (did : Did) (before after : Stage O) (failed : Option RunErr) : Type 0 where
  pub step : StepOk m seat did before after
  pub whole : failed ≡ None

-- a step that touched nothing outside, whatever is known of the pages and was shown before it. It fed nothing
pub record StepsAlone {O : Type 0} (m : Ghosts O) (seat : ℕ) (did : Did) (flow flow' : Flow O) : Type 0 where
  pub stepped : (pages : Option Pages) (events : List Event) → Together flow.queues pages → Stepped m pages pages flow flow' events events
  pub on : Whatever m flow (λ tails. (pages : Option Pages) (events : List Event) → Together flow.queues pages
      → Stepped m pages pages (with_tails tails flow) (with_tails tails flow') events events)
  pub closes : (table : ℕ → ℕ → ℕ) → AgreesWith flow'.levels table → AgreesWith flow.levels table
  pub touches : TouchesOnly seat flow flow'
  pub taken : taken_in_all m flow' ≡ taken_in_all m flow
  pub lowers : Lowers did (measure_of flow) (measure_of flow')
  pub took : TookBy seat did flow flow'

-- a train of up to so many steps that ended Ok. It ends before only where the actor is finished or isn't ready
pub record TrainOk {O : Type 0} (m : Ghosts O) (seat train : ℕ) (before after : Stage O) (p : Progress) : Type 0 where
  pub moves : Proceeds m seat before after
  pub falls : FallsBy p.fed p.finished (measure_of before.flow) (measure_of after.flow)
  pub took : done_at before.flow.over (slice_get before.flow.seats.items seat) ≡ false → Took seat p.fed p.finished before.flow after.flow
  pub most : p.fed ≤ train
  pub works : IsReady before.flow seat → p.fed ≡ 0 → p.finished ≡ true
  pub stops : (p.fed ≡ train) ⊎ ((p.finished ≡ true) ⊎ (IsReady after.flow seat → ⊥))

-- the feed at which a run of steps failed, where one did: the flow right before it came of the first by steps
pub record FailsAt {O : Type 0} (m : Ghosts O) (log now : DiskLog) (flow flow' : Flow O) (events : List Event) (e : RunErr) : Type 0 where
  pub before : Flow O
  pub mid : DiskLog
  pub shown : List Event
  pub stepped : Stepped m (known log) (known mid) flow before events shown
  pub on : Whatever m flow (λ tails. Stepped m (known log) (known mid) (with_tails tails flow) (with_tails tails before) events shown)
  pub later : IsLater log mid
  pub last : IsLater mid now
  pub feed : IsFeedCause before flow' mid now e

-- a call that failed: what was shown begins what was to be shown, by levels that were planned; the error is named rightly, and no more work
-- was done than there was
pub record FallsShort {O : Type 0} (m : Ghosts O) (before after : Stage O) (e : RunErr) : Type 0 where
  pub prefix : ShowsPrefix m (known before.log) (known after.log) before.flow after.flow.levels before.events after.events
  pub plans : PlansPrefix before.flow after.flow.levels before.events after.events
  pub strange : NoneStrange m before.log.honest (known before.log) (known after.log) before.flow after.flow.levels e
  pub cost : StepCosts m (known before.log) (known after.log) before.flow after.flow.levels before.steps after.steps
  pub too_much : TooMuchOnly m (known before.log) (known after.log) before.flow after.flow e

-- a step, or a train, that failed: the error has a cause that it shows
pub record StepErr {O : Type 0} (m : Ghosts O) (before after : Stage O) (e : RunErr) : Type 0 where
  pub keeps : Remains before after
  pub closes : (table : ℕ → ℕ → ℕ) → AgreesWith after.flow.levels table → AgreesWith before.flow.levels table
  pub short : FallsShort m before after e
  pub on : Whatever m before.flow (λ tails. FallsShort m (stage_on tails before) (stage_on tails after) e)
  pub cause : IsCauseIn after.flow before.log after.log before.faults after.faults e
  pub feed : FailsAt m before.log after.log before.flow after.flow before.events e
