-- Why a step failed, and what shows it.
use Rattle.std.specs.Prelude.{◌≡◌, ◌≢◌, ◌⊎◌, ℕ, ◌+◌, ◌^◌, ◌≤◌, ◌<◌, ⊤, true, List, ◌∷◌, length, Option, Some, None, is_some, slice_get}
use Rattle.sq_item.specs.declared.Item.{Item}
use Rattle.sq_item.specs.SoundItems.{IsSoundItem}
use Rattle.sq_item.specs.Things.{spread}
use Rattle.sq_oper.specs.declared.tally.Position.{Position}
use Rattle.sq_outside.specs.Disks.{DiskLog, Pages}
use Rattle.sq_outside.specs.Faults.{Rose}
use Rattle.sq_pool.specs.Trust.{IsLater, Tells, known}
use Rattle.sq_paged.specs.Fronts.{IsPopped}
use Rattle.sq_queue.specs.declared.Queues.{Queues}
use Rattle.sq_bring.specs.declared.bring.QueueErr.{QueueErr}
use Rattle.sq_bring.specs.declared.bring.QueueErr.TheVariants as queue
use Rattle.sq_queue.specs.Faces.{IsFirst, IsRefusal, face, size, frames, items_on, Together}
use Rattle.sq_flow.specs.declared.wires.Arc.{Arc}
use Rattle.sq_flow.specs.declared.seats.Seat.{Seat}
use Rattle.sq_flow.specs.declared.flow.Flow.{Flow}
use Rattle.sq_flow.specs.declared.errors.RunErr.{RunErr}
use Rattle.sq_flow.specs.declared.errors.RunErr.TheVariants as error
use Rattle.sq_flow.specs.Takes.{MayBeFed, NotChanged}
use Rattle.sq_flow.specs.Wiring.{arcs_read}

-- the error of a step for that of its queues
abbrev pub of_queue : QueueErr → RunErr
of_queue queue.Disk = error.Disk
of_queue (queue.Garbled page kept got) = error.Garbled page kept got
of_queue (queue.NotAPage page bytes) = error.NotAPage page bytes
of_queue queue.Memory = error.Memory

-- why a call failed that kept the fault which it met: without one memory ran out
abbrev pub fault_or : Option RunErr → RunErr
fault_or None = error.Memory
fault_or (Some e) = e

-- a page of an arc came back to these queues in a call, by the disk's log before and after it, and it was refused
pub record IsPageRefused (queues : Queues) (was is : DiskLog) (e : QueueErr) : Type 0 where
  pub before : Queues
  pub arc : ℕ
  pub refusal : IsRefusal before queues was is arc e

-- the first item of an arc was taken in a call, by the disk's log before and after it, and the others stayed
pub record HasTaken (was is : DiskLog) (before queues : Queues) (arc : ℕ) (item : Item) : Type 0 where
  pub popped : IsPopped (face before arc) (face queues arc)
  pub others : (other : ℕ) → other ≢ arc → face queues other ≡ face before other
  pub first : IsFirst before was is arc item
  pub items : Tells (known is) → items_on before (known was) arc ≡ item ∷ items_on queues (known is) arc

-- a feed took this item, the first of an arc that its operator reads, and did no more: the flow and the disk's log right before it and
-- behind it
pub record TakesOnly {O : Type 0} (before flow : Flow O) (was is : DiskLog) (arc : ℕ) (item : Item) : Type 0 where
  pub seat : ℕ
  pub port : ℕ
  pub reads : slice_get (arcs_read before.wires seat) port ≡ Some arc
  pub same : flow ≡ record before { queues = flow.queues }
  pub taken : HasTaken was is before.queues flow.queues arc item

-- the item that a feed took has more marks and tuples than can still be counted
pub record IsFull {O : Type 0} (before flow : Flow O) (was is : DiskLog) : Type 0 where
  pub arc : ℕ
  pub item : Item
  pub takes : TakesOnly before flow was is arc item
  pub over : 2 ^ 62 ≤ before.taken + length (spread item)

-- what shows why a feed failed that took an item: the flow and the disk's log right before it and behind it
abbrev pub IsFeedCause : {O : Type 0} → Flow O → Flow O → DiskLog → DiskLog → RunErr → Type 0
IsFeedCause before flow was is error.Disk = ⊤
IsFeedCause before flow was is (error.Garbled page kept got) = ⊤
IsFeedCause before flow was is (error.NotAPage page bytes) = ⊤
IsFeedCause before flow was is (error.Strange arc item) = TakesOnly before flow was is arc item
IsFeedCause before flow was is error.TooMuch = IsFull before flow was is
IsFeedCause before flow was is error.Memory = ⊤

-- the operator that reads this arc may not be fed this item
pub record IsStrangeIn {O : Type 0} (flow : Flow O) (arc : ℕ) (item : Item) : Type 0 where
  pub number : ℕ
  pub port : ℕ
  pub seat : Seat O
  pub at : Arc
  pub reads : slice_get (arcs_read flow.wires number) port ≡ Some arc
  pub seated : slice_get flow.seats.items number ≡ Some seat
  pub wired : slice_get flow.wires.arcs.items arc ≡ Some at
  pub refused : ¬ (MayBeFed at port seat.tally.place flow.clock item)

-- what shows why a call over queues failed: the disk's log and its faults before and after it, and the queues as they stand after it
abbrev pub IsQueueCause : Queues → DiskLog → DiskLog → ℕ → ℕ → RunErr → Type 0
IsQueueCause queues was is before now error.Disk = Rose before now
IsQueueCause queues was is before now (error.Garbled page kept got) = IsPageRefused queues was is (queue.Garbled page kept got)
IsQueueCause queues was is before now (error.NotAPage page bytes) = IsPageRefused queues was is (queue.NotAPage page bytes)
IsQueueCause queues was is before now (error.Strange arc item) = ⊥
IsQueueCause queues was is before now error.TooMuch = ⊥
IsQueueCause queues was is before now error.Memory = ⊤

-- why a call over queues failed: what shows it, and where the disk is known behind it, that no disk that is known brings about another error
pub record FailsOver (queues : Queues) (was is : DiskLog) (before now : ℕ) (e : RunErr) : Type 0 where
  pub cause : IsQueueCause queues was is before now e
  pub honest : Tells (known is) → NotChanged was.honest e

-- a call over a disk: it forgets nothing, and no count of faults falls
pub record LogGrows (was is : DiskLog) (before now : ℕ) : Type 0 where
  pub later : IsLater was is
  pub faults : before ≤ now

-- an item may be taken from an arc: one stands there
pub record MayTake (queues : Queues) (was : Option Pages) (arc : ℕ) : Type 0 where
  pub there : arc < size queues
  pub some : is_some (face queues arc).first ≡ true
  pub together : Together queues was

-- the other arcs are as they were: as many items, the same one first, ended or not
pub record TouchesArc (arc : ℕ) (before after : Queues) : Type 0 where
  pub faces : (other : ℕ) → other ≢ arc → face after other ≡ face before other
  pub size : size after ≡ size before

-- the first item of an arc was taken, and it may be fed at a port of an operator that stands at this place; the other arcs have the items that they
-- had, no arc has ended by it, and there are as many frames
pub record TakesItem (was is : DiskLog) (before queues : Queues) (at : Arc) (arc port : ℕ) (place : Position) (clock : ℕ) (item : Item) : Type 0 where
  pub sound : IsSoundItem item
  pub may_be_fed : MayBeFed at port place clock item
  pub taken : HasTaken was is before queues arc item
  pub ended : (other : ℕ) → (face queues other).ended ≡ (face before other).ended
  pub others : Tells (known is) → (other : ℕ) → other ≢ arc → items_on queues (known is) other ≡ items_on before (known was) other
  pub together : Together queues (known is)
  pub framed : frames queues ≡ frames before

-- no item was taken that may be fed: the disk had a fault, a page came back changed, memory ran out, or the item that came may not be fed at the port.
-- Where the pages of the disk are known, and the item that stood first may be fed, a changed page is named as garbled, and over an honest disk none is
pub record TakesNone (was is : DiskLog) (faults faults' : ℕ) (before queues : Queues) (at : Arc) (arc port : ℕ) (place : Position) (clock : ℕ) (e : RunErr) : Type 0 where
  pub cause : IsQueueCause queues was is faults faults' e
      ⊎ ((item : Item) × (e ≡ error.Strange arc item) × HasTaken was is before queues arc item × ¬ (MayBeFed at port place clock item))
  pub honest : Tells (known is) → ((item : Item) (more : List Item) → items_on before (known was) arc ≡ item ∷ more → MayBeFed at port place clock item)
      → NotChanged was.honest e
  pub counts : e ≢ error.TooMuch

-- what shows why a step failed: the disk's log and its faults before and after it, and the flow as it stands after it
abbrev pub IsCauseIn : {O : Type 0} → Flow O → DiskLog → DiskLog → ℕ → ℕ → RunErr → Type 0
IsCauseIn flow was is before now error.Disk = Rose before now
IsCauseIn flow was is before now (error.Garbled page kept got) = IsPageRefused flow.queues was is (queue.Garbled page kept got)
IsCauseIn flow was is before now (error.NotAPage page bytes) = IsPageRefused flow.queues was is (queue.NotAPage page bytes)
IsCauseIn flow was is before now (error.Strange arc item) = IsStrangeIn flow arc item
IsCauseIn flow was is before now error.TooMuch = ⊤
IsCauseIn flow was is before now error.Memory = ⊤
