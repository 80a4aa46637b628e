-- What an operator in its seat gives onward.
use Rattle.std.specs.Prelude.{◌≡◌, ℕ, ◌-◌, ◌^◌, ◌/◌, ◌<◌, true, List, [], ◌++◌, Option}
use Rattle.sq_words.specs.Lists.{IsPrefixOf}
use Rattle.sq_item.specs.declared.Item.{Item}
use Rattle.sq_item.specs.SoundItems.{IsSoundItem}
use Rattle.sq_outside.specs.Disks.{Pages}
use Rattle.sq_road.specs.Levels.{LevelTable, AgreesWith}
use Rattle.sq_oper.specs.declared.operator.Operator.{Ghosts}
use Rattle.sq_oper.specs.declared.outs.Decision.{Decision}
use Rattle.sq_oper.specs.declared.outs.Event.{Event}
use Rattle.sq_oper.specs.Entries.{Entry, entries}
use Rattle.sq_oper.specs.Outflow.{given}
use Rattle.sq_queue.specs.declared.Queues.{Queues}
use Rattle.sq_flow.specs.declared.wires.Wires.{Wires}
use Rattle.sq_flow.specs.declared.seats.Seat.{Seat}
use Rattle.sq_flow.specs.Wiring.{AllOutsFine}
use Rattle.sq_flow.specs.Sends.{sent_to, is_sent_by, Pushes}
use Rattle.sq_flow.specs.Seats.{IsFutureOf, FedSeat, FinishedSeat}
use Rattle.sq_flow.specs.Shows.{IsShown}

-- a seat may be fed an item at a port, where these levels are known: it runs, the item may come to it, and it can still be counted
pub record MayFeed {O : Type 0} (m : Ghosts O) (levels : LevelTable) (port : ℕ) (item : Item) (seat : Seat O) : Type 0 where
  pub is_valid : m.valid seat.op × (m.running seat.op ≡ true)
  pub may_come : IsFutureOf m seat.op (entries port item)
  pub is_sound : IsSoundItem item
  pub has_epoch : m.reads seat.op levels.epoch ≡ true
  pub has_level : item.time / levels.epoch < levels.closed
  pub has_room : (m.taken seat.op < 2 ^ 62 - 1) × (seat.tally.taken < 2 ^ 62 - 1)

-- what the actor at the seat of a number gave, these items and these batches, went into the queues, or was shown
pub record PassedOn (wires : Wires) (number : ℕ) (items : List (ℕ × Item)) (drops : List Decision) (queues queues' : Queues) (was is : Option Pages)
    (events events' : List Event) : Type 0 where
  pub sent : Pushes queues queues' was is (sent_to wires number items) (λ time. AllOutsFine time items) (is_sent_by wires number)
  pub shown : IsShown wires number items drops events events'

-- a feed: what the operator gave went onward
pub record FeedsInto {O : Type 0} (m : Ghosts O) (levels : LevelTable) (port : ℕ) (item : Item) (wires : Wires) (number : ℕ)
    (seat seat' : Seat O) (queues queues' : Queues) (was is : Option Pages) (events events' : List Event) : Type 0 where
  pub items : List (ℕ × Item)
  pub drops : List Decision
  pub fed : FedSeat m levels port item items drops seat seat'
  pub onward : PassedOn wires number items drops queues queues' was is events events'

-- a feed that failed: what it gave before is the beginning of what the operator will give
pub record FeedsPart {O : Type 0} (m : Ghosts O) (levels : LevelTable) (port : ℕ) (item : Item) (wires : Wires) (number : ℕ) (seat : Seat O)
    (events events' : List Event) : Type 0 where
  pub items : List (ℕ × Item)
  pub drops : List Decision
  pub law : (table : ℕ → ℕ → ℕ) (future : List Entry) → AgreesWith levels table → IsFutureOf m seat.op (entries port item ++ future)
      → (q : ℕ) → IsPrefixOf (given q items) (m.rest seat.op table (entries port item ++ future) q)
  pub decided : (table : ℕ → ℕ → ℕ) (future : List Entry) → AgreesWith levels table → IsFutureOf m seat.op (entries port item ++ future)
      → IsPrefixOf drops (m.decides seat.op table (entries port item ++ future))
  pub shown : IsShown wires number items drops events events'

-- the end of an operator, likewise
pub record EndsInto {O : Type 0} (m : Ghosts O) (wires : Wires) (number : ℕ)
    (seat seat' : Seat O) (queues queues' : Queues) (was is : Option Pages) (events events' : List Event) : Type 0 where
  pub items : List (ℕ × Item)
  pub drops : List Decision
  pub finished : FinishedSeat m items drops seat seat'
  pub onward : PassedOn wires number items drops queues queues' was is events events'

pub record EndsPart {O : Type 0} (m : Ghosts O) (wires : Wires) (number : ℕ) (seat : Seat O) (events events' : List Event) : Type 0 where
  pub items : List (ℕ × Item)
  pub drops : List Decision
  pub law : (table : ℕ → ℕ → ℕ) (q : ℕ) → IsPrefixOf (given q items) (m.rest seat.op table [] q)
  pub decided : (table : ℕ → ℕ → ℕ) → IsPrefixOf drops (m.decides seat.op table [])
  pub shown : IsShown wires number items drops events events'
