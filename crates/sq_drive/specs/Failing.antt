-- How an engine came to fail, and what one took that came to its end.
use Rattle.std.specs.Prelude.{◌≡◌, ℕ, ◌<◌, List, [], length, Option, Some, slice_get}
use Rattle.sq_outside.specs.Disks.{DiskLog, Pages}
use Rattle.sq_graph.specs.Wires.{input_arcs_of}
use Rattle.sq_oper.specs.declared.outs.Event.{Event}
use Rattle.sq_model.specs.KeptTuples.{kept_of}
use Rattle.sq_model.specs.Shedding.{Replay}
use Rattle.sq_pool.specs.Trust.{known}
use Rattle.sq_queue.specs.Faces.{frames}
use Rattle.sq_flow.specs.declared.errors.RunErr.{RunErr}
use Rattle.sq_flow.specs.Flows.{Stepped}
use Rattle.sq_flow.specs.Stepping.{FailsAt}
use Rattle.sq_core.specs.declared.engine.Engine.{Engine}
use Rattle.sq_core.specs.Meanings.{actors}
use Rattle.sq_core.specs.Runs.{IsAllKnown, IsRun, tuples_fed, flow_of}
use Rattle.sq_status.specs.declared.Status.{Status}
use Rattle.sq_work.specs.Scripts.{AcceptedReplay}
use Rattle.sq_due.specs.Due.{replayed}
use Rattle.sq_drive.specs.Stopping.{status_of}

-- from one engine, by steps that ended well, it came to another
pub record WentOn (was is : Option Pages) (from to : Engine) : Type 0 where
  pub shown : List Event
  pub stepped : Stepped actors was is (flow_of from) (flow_of to) [] shown

-- each box was fed, at each port, exactly the tuples that are still needed of the arc there
abbrev pub TookNeeded : Replay → Engine → Type 0
TookNeeded r engine =
    (at port arc : ℕ) → at < length r.network.boxes → slice_get (input_arcs_of r.network.wires at) port ≡ Some arc
    → tuples_fed engine at port ≡ kept_of r arc

-- from one engine, by steps that ended well, it came to another, of the same network, whose last feed failed with the error of this status:
-- where the item was strange, or too much, it took the first of an arc and no more
pub record CameTo (was is : DiskLog) (from : Engine) (s : Status) (to : Engine) : Type 0 where
  pub network : to.network ≡ from.network
  pub error : RunErr
  pub named : status_of error ≡ s
  pub fails : FailsAt actors was is (flow_of from) (flow_of to) [] error

-- a new engine of what was accepted, of which all is known: one that was fed nothing and has shown nothing, with as many frames as are named
pub record IsNewOf (r : AcceptedReplay) (engine : Engine) : Type 0 where
  pub run : (pages : Option Pages) (steps : ℕ) → IsRun (replayed r) pages engine [] steps steps
  pub known : IsAllKnown engine
  pub framed : frames (flow_of engine).queues ≡ r.frames

-- between these logs of the disk the engine came to fail, with the error of this status, from a new engine of what was accepted
pub record IsOfRun (was is : DiskLog) (r : AcceptedReplay) (s : Status) (engine : Engine) : Type 0 where
  pub begun : Engine
  pub new : IsNewOf r begun
  pub came : CameTo was is begun s engine

-- between these logs of the disk an engine came, by steps that ended well, from a new engine of what was accepted, and each of its boxes was
-- fed exactly the tuples that are still needed
pub record FedNeeded (was is : DiskLog) (r : AcceptedReplay) : Type 0 where
  pub begun : Engine
  pub new : IsNewOf r begun
  pub engine : Engine
  pub went : WentOn (known was) (known is) begun engine
  pub needed : TookNeeded (replayed r) engine
