-- The outlet of an actor: what became of the items and the decisions that the actor gave.
use Rattle.std.specs.Prelude.{◌≡◌, ℕ, None, IfSome}
use Rattle.sq_outside.specs.Disks.{DiskLog}
use Rattle.sq_pool.specs.Trust.{known}
use Rattle.sq_flow.specs.declared.queue_outlet.QueueOutlet.{QueueOutlet}
use Rattle.sq_flow.specs.Causes.{FailsOver, LogGrows}
use Rattle.sq_flow.specs.Wiring.{AllOutsFine}
use Rattle.sq_flow.specs.Sends.{sent_to, is_sent_by, Pushes, MayGive}
use Rattle.sq_flow.specs.Shows.{IsShown}

-- the actor may give more
abbrev pub IsOpen : {D : Type 0} → (D → DiskLog) → QueueOutlet D → Type 0
IsOpen log s = MayGive s.wires.now s.seat s.queues.now (known (log s.disk.now)) s.failed.now

-- it is still the outlet of the same actor, over the same queues, disk and events, and keeps a fault where it did
pub record HoldsSame {D : Type 0} (start s : QueueOutlet D) : Type 0 where
  pub queues : start.queues.ghost_name ≡ s.queues.ghost_name
  pub disk : start.disk.ghost_name ≡ s.disk.ghost_name
  pub events : start.events.ghost_name ≡ s.events.ghost_name
  pub failed : start.failed.ghost_name ≡ s.failed.ghost_name
  pub wires : s.wires ≡ start.wires
  pub seat : s.seat ≡ start.seat

-- what the actor gave since the start: the batches that it dropped are shown, and so are its tuples where it is an output. Where no fault was met
-- its items stand last on the arcs that come from it, and where one was something shows why
pub record Came {D : Type 0} (log : D → DiskLog) (faults : D → ℕ) (start s : QueueOutlet D) : Type 0 where
  pub holds : HoldsSame start s
  pub shown : IsShown s.wires.now s.seat s.given.items s.noted.drops start.events.now.items s.events.now.items
  pub sent : s.failed.now ≡ None
      → Pushes start.queues.now s.queues.now (known (log start.disk.now)) (known (log s.disk.now))
      (sent_to s.wires.now s.seat s.given.items) (λ time. AllOutsFine time s.given.items) (is_sent_by s.wires.now s.seat)
  pub fails : IfSome s.failed.now (FailsOver s.queues.now (log start.disk.now) (log s.disk.now) (faults start.disk.now) (faults s.disk.now))
  pub grows : LogGrows (log start.disk.now) (log s.disk.now) (faults start.disk.now) (faults s.disk.now)
