-- Why the engine of a run stopped, and what shows it.
use Rattle.std.specs.Prelude.{◌≡◌, ⊤, ℕ, true}
use Rattle.sq_outside.specs.Disks.{DiskLog}
use Rattle.sq_outside.specs.Faults.{Rose}
use Rattle.sq_bring.specs.declared.bring.QueueErr.TheVariants as queue
use Rattle.sq_actor.specs.declared.actor.Actor.{Actor}
use Rattle.sq_flow.specs.declared.flow.Flow.{Flow}
use Rattle.sq_flow.specs.declared.errors.RunErr.{RunErr}
use Rattle.sq_flow.specs.declared.errors.RunErr.TheVariants as error
use Rattle.sq_flow.specs.Causes.{IsPageRefused, IsStrangeIn}
use Rattle.sq_core.specs.declared.engine.Engine.{Engine}
use Rattle.sq_core.specs.Runs.{flow_of, has_failed}
use Rattle.sq_status.specs.declared.Status.{Status}
use Rattle.sq_status.specs.declared.Status.TheVariants as status

-- the status for the error of a step
abbrev pub status_of : RunErr → Status
status_of error.Disk = status.DiskFault
status_of (error.Garbled page kept got) = status.Garbled page kept got
status_of (error.NotAPage page bytes) = status.NotAPage page bytes
status_of (error.Strange arc item) = status.Strange arc item
status_of error.TooMuch = status.TooMuch
status_of error.Memory = status.Memory

-- an engine of a run failed, and what it holds shows why
pub record FailedIn (IsOfRun : Engine → Type 0) (Shows : Flow Actor → Type 0) : Type 0 where
  pub engine : Engine
  pub of_run : IsOfRun engine
  pub failed : has_failed engine ≡ true
  pub shows : Shows (flow_of engine)

-- over every disk, by its log and its faults before a run and now: the disk is at fault only where its count rose. Else an engine of the
-- run failed: a page is garbled only where the two digests differ, and bytes are no page only where they came back to its queues in the run
-- and were refused; an item is strange only where the operator that reads its arc may not be fed it. Which item its last feed took, a
-- strange one or one too much, is told by how it came to fail
abbrev pub StopHasCause : (Engine → Type 0) → DiskLog → DiskLog → ℕ → ℕ → Status → Type 0
StopHasCause IsOfRun was is before now status.DiskFault = Rose before now
StopHasCause IsOfRun was is before now (status.Garbled page kept got) = (¬ (kept.0 ≡ got.0)) × FailedIn IsOfRun (λ flow. IsPageRefused flow.queues was is (queue.Garbled page kept got))
StopHasCause IsOfRun was is before now (status.NotAPage page bytes) = FailedIn IsOfRun (λ flow. IsPageRefused flow.queues was is (queue.NotAPage page bytes))
StopHasCause IsOfRun was is before now (status.Strange arc item) = FailedIn IsOfRun (λ flow. IsStrangeIn flow arc item)
StopHasCause IsOfRun was is before now status.TooMuch = FailedIn IsOfRun (λ flow. ⊤)
StopHasCause IsOfRun was is before now result = ⊤
