-- What the turns of a run promise, between two moments of it, and before whoever is shown its events.
--     RunState, Moment            what stands at one moment: a run, and with it its audience
--     GoesOn n a b events         steps that ended Ok lead from a to b, and showed these events
--     EndsOn, FailsOn             they lead on to the end; the last of them failed
--     TurnsOn, RunsOut, TurnFails the same before an audience that was shown the events
--     DriveEnds, DriveFails       the same of a whole run whose lines were written
use Rattle.std.specs.Prelude.{◌≡◌, ℕ, ◌≤◌, List, [], ◌++◌, Option}
use Rattle.std.specs.List.{AllByRecursion}
use Rattle.sq_outside.specs.Disks.{DiskLog, Pages}
use Rattle.sq_outside.specs.declared.PageDisk.{Ghosts as DiskGhosts}
use Rattle.sq_net.specs.declared.Network.{Network}
use Rattle.sq_oper.specs.declared.outs.Event.{Event}
use Rattle.sq_model.specs.Shedding.{Replay}
use Rattle.sq_pool.specs.Trust.{IsLater, Tells, known}
use Rattle.sq_queue.specs.Faces.{Together}
use Rattle.sq_flow.specs.Engines.{AllDone}
use Rattle.sq_flow.specs.Flows.{Stepped}
use Rattle.sq_flow.specs.Tails.{Whatever, with_tails}
use Rattle.sq_core.specs.declared.engine.Engine.{Engine}
use Rattle.sq_core.specs.Meanings.{actors}
use Rattle.sq_core.specs.Runs.{IsAllKnown, IsRun, IsSoundEngine, ShownAll, flow_of}
use Rattle.sq_status.specs.declared.Status.{Status}
use Rattle.sq_due.specs.declared.audience.Audience.{Ghosts}
use Rattle.sq_due.specs.declared.counting.Counts.{Counts}
use Rattle.sq_due.specs.Counting.{HasCounts}
use Rattle.sq_drive.specs.Summed.{IsSummed}
use Rattle.sq_drive.specs.Driving.{HasEnded, IsCutShort, IsDriven, IsHalted, IsRestOf, StoppedWith, WritesFirst, WritesRest}
use Rattle.sq_due.specs.Histories.{IsEventAt}
use Rattle.sq_drive.specs.Failing.{CameTo}
use Rattle.sq_due.specs.States.{DiskState, SinkState}
use Rattle.sq_drive.specs.Stopping.{StopHasCause}

-- a run at one moment: its engine, what its disk has noted, and how often it has failed, and the steps taken
pub record RunState : Type 0 where
  pub engine : Engine
  pub log : DiskLog
  pub faults : ℕ
  pub steps : ℕ

-- what it is, by what the disk tells
abbrev pub run_state : {D : Type 0} → DiskGhosts D → Engine → D → ℕ → RunState
run_state tells engine disk steps = record { engine = engine; log = tells.log disk; faults = tells.faults disk; steps = steps }

-- and with it who is shown its events, and the output
pub record Moment (A O : Type 0) : Type 0 where
  pub run : RunState
  pub audience : A
  pub out : O

-- what it is, by what the disk tells
abbrev pub moment : {D A O : Type 0} → DiskGhosts D → Engine → D → ℕ → A → O → Moment A O
moment tells engine disk steps audience out = record { run = run_state tells engine disk steps; audience = audience; out = out }

-- an engine can be driven: it is sound, all is known that its sources give, and its queues go with what is known of the pages
pub record IsDrivable (pages : Option Pages) (engine : Engine) : Type 0 where
  pub sound : IsSoundEngine engine
  pub known : IsAllKnown engine
  pub together : Together (flow_of engine).queues pages

-- so it can, before an audience that may be shown its events
pub record CanTurn {A O : Type 0} (m : Ghosts A O) (a : Moment A O) : Type 0 where
  pub engine : IsDrivable (known a.run.log) a.run.engine
  pub audience : m.ready a.audience a.run.engine.network

-- what any turn keeps: the network, and the disk forgets nothing, and no count of its faults falls
pub record KeepsRun (before after : RunState) : Type 0 where
  pub network : after.engine.network ≡ before.engine.network
  pub later : IsLater before.log after.log
  pub faults : before.faults ≤ after.faults

-- steps that ended Ok: what was shown, and then what is pending, stays the same, of any run that it is
pub record GoesOn (n : Network) (before after : RunState) (events : List Event) : Type 0 where
  pub there : AllByRecursion (IsEventAt n) events
  pub left : Stepped actors (known before.log) (known after.log) (flow_of before.engine) (flow_of after.engine) [] events
  pub left_on : Whatever actors (flow_of before.engine) (λ tails.
      Stepped actors (known before.log) (known after.log) (with_tails tails (flow_of before.engine)) (with_tails tails (flow_of after.engine)) [] events)
  pub runs : (r : Replay) (history : List Event) (begun : ℕ)
      → IsRun r (known before.log) before.engine history begun before.steps → IsRun r (known after.log) after.engine (history ++ events) begun after.steps
  pub sound : IsSoundEngine after.engine
  pub known : IsAllKnown after.engine

-- they lead on to the end of the run: these events show exactly what was pending, and where the disk is known they make the history of any run
-- that it is the whole answer
pub record EndsOn (before after : RunState) (events : List Event) : Type 0 where
  pub on : GoesOn before.engine.network before after events
  pub done : AllDone (flow_of after.engine)
  pub rest : IsRestOf (known before.log) (known after.log) before.engine after.engine events
  pub all : Tells (known after.log) → (r : Replay) (history : List Event) (begun : ℕ)
      → IsRun r (known before.log) before.engine history begun before.steps → ShownAll r after.engine (history ++ events) begun after.steps

-- steps of which the last failed: those that ended Ok led to an engine and to what was known then of the disk; how any run stopped that it
-- is; and by what the engine came to fail
pub record FailsOn (n : Network) (before after : RunState) (events : List Event) (result : Status) : Type 0 where
  pub mid : Option Pages
  pub tells : Tells (known after.log) → Tells mid
  pub last : Engine
  pub there : AllByRecursion (IsEventAt n) events
  pub left : Stepped actors (known before.log) mid (flow_of before.engine) (flow_of last) [] events
  pub stops : Tells (known after.log) → (r : Replay) (history : List Event) (begun : ℕ)
      → IsRun r (known before.log) before.engine history begun before.steps → StoppedWith before.log.honest r (history ++ events) begun after.steps result
  pub cause : StopHasCause (CameTo before.log after.log before.engine result) before.log after.log before.faults after.faults result

-- turns that ended Ok: whatever the audience was shown before, it was shown these events more, and may be shown others
pub record TurnsOn {A O : Type 0} (m : Ghosts A O) (n : Network) (before after : Moment A O) : Type 0 where
  pub events : List Event
  pub goes : GoesOn n before.run after.run events
  pub shown : (from : O) (history : List Event) → m.shown from before.audience before.out n history → m.shown from after.audience after.out n (history ++ events)
  pub ready : m.ready after.audience n

-- they lead on to the end of the run: nothing is held back of what was shown
pub record RunsOut {A O : Type 0} (m : Ghosts A O) (before after : Moment A O) : Type 0 where
  pub events : List Event
  pub ends : EndsOn before.run after.run events
  pub whole : (from : O) (history : List Event) → m.shown from before.audience before.out before.run.engine.network history
      → m.whole from after.audience after.out before.run.engine.network (history ++ events)
  pub ready : m.ready after.audience before.run.engine.network

-- turns of which the last failed, by no refusal: a beginning went out of the events of those that ended Ok, and the output is at fault only where
-- the count of its faults rose
pub record TurnFails {A O : Type 0} (m : Ghosts A O) (n : Network) (before after : Moment A O) (result : Status) : Type 0 where
  pub events : List Event
  pub fails : FailsOn n before.run after.run events result
  pub begun : (from : O) (history : List Event) → m.shown from before.audience before.out n history → m.begun from after.out n (history ++ events)
  pub cut : IsCutShort (m.faults before.out) (m.faults after.out) result

-- a run came to its end, and the lines of what it showed were written: where the disk is known they make the history of any run that it is the
-- whole answer; and, of whatever engine, they are those of what was pending
pub record DriveEnds (before after : RunState) (was is : Option (List ℕ)) : Type 0 where
  pub ended : HasEnded (known before.log) (known after.log) before.engine after.engine
  pub driven : (r : Replay) (history : List Event) (begun : ℕ) → Tells (known after.log)
      → IsRun r (known before.log) before.engine history begun before.steps → IsDriven r history after.engine was is begun after.steps
  pub rest : WritesRest (known before.log) (known after.log) before.engine after.engine was is

-- or it counted them
pub record CountEnds (before after : RunState) (counts : Counts) : Type 0 where
  pub ended : HasEnded (known before.log) (known after.log) before.engine after.engine
  pub room : HasCounts after.engine.network counts
  pub summed : (r : Replay) (begun : ℕ) → Tells (known after.log) → IsRun r (known before.log) before.engine [] begun before.steps
      → IsSummed r after.engine counts begun after.steps

-- a run stopped, between these states of the disk, of the steps and of the output, for a cause: what was written begins the lines of what was
-- pending, and where the disk is known those of the answer of any run that it is
pub record DriveFails (before : RunState) (disk : DiskState) (steps : ℕ) (was is : SinkState) (result : Status) : Type 0 where
  pub halted : (r : Replay) (history : List Event) (begun : ℕ) → Tells (known disk.log)
      → IsRun r (known before.log) before.engine history begun before.steps → IsHalted before.log.honest r history result was.written is.written begun steps
  pub first : WritesFirst (known before.log) (known disk.log) before.engine was.written is.written
  pub cut : IsCutShort was.faults is.faults result
  pub stopped : StopHasCause (CameTo before.log disk.log before.engine result) before.log disk.log before.faults disk.faults result
