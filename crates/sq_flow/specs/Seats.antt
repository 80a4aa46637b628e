-- Operators in their seats: an operator with what the run keeps of what it was fed.
use Rattle.std.specs.Prelude.{◌≡◌, ℕ, ◌+◌, ◌≤◌, Bool, true, false, not, List, [], ◌∷◌, ◌++◌, Option, Some, None, is_some, if◌then◌else◌}
use Rattle.std.specs.List.{AllByRecursion}
use Rattle.sq_value.specs.declared.Value.{Value}
use Rattle.sq_item.specs.Things.{Thing}
use Rattle.sq_oper.specs.declared.operator.Operator.{Ghosts}
use Rattle.sq_oper.specs.declared.tally.Position.{Position}
use Rattle.sq_oper.specs.declared.tally.Position.TheVariants.{Start}
use Rattle.sq_oper.specs.declared.outs.Decision.{Decision}
use Rattle.sq_oper.specs.Entries.{Entry, entries}
use Rattle.sq_item.specs.declared.Item.{Item}
use Rattle.sq_road.specs.Levels.{LevelTable, AgreesWith}
use Rattle.sq_oper.specs.Outflow.{given, ItemsSound, ThingsUpTo}
use Rattle.sq_oper.specs.Order.{IsFuture, after_all}
use Rattle.sq_flow.specs.declared.fed_items.FedItems.{FedItems}
use Rattle.sq_flow.specs.declared.seats.Seat.{Seat}

-- no item was fed
abbrev pub unfed : FedItems
unfed = record { marker = record {}; items = [] }

-- what the operator in a seat says, and a default where there is none
abbrev pub rest_at : {O : Type 0} → Ghosts O → (ℕ → ℕ → ℕ) → Option (Seat O) → List Entry → ℕ → List Thing
rest_at m table None future q = []
rest_at m table (Some seat) future q = m.rest seat.op table future q

abbrev pub decides_at : {O : Type 0} → Ghosts O → (ℕ → ℕ → ℕ) → Option (Seat O) → List Entry → List Decision
decides_at m table None future = []
decides_at m table (Some seat) future = m.decides seat.op table future

abbrev pub lost_at : {O : Type 0} → Ghosts O → Option (Seat O) → List Entry → ℕ
lost_at m None future = 0
lost_at m (Some seat) future = m.lost seat.op future

abbrev pub taken_at : {O : Type 0} → Ghosts O → Option (Seat O) → ℕ
taken_at m None = 0
taken_at m (Some seat) = m.taken seat.op

abbrev pub fed_items_at : {O : Type 0} → Option (Seat O) → List (ℕ × Item)
fed_items_at None = []
fed_items_at (Some seat) = seat.fed.items

abbrev pub position_at : {O : Type 0} → Ghosts O → Option (Seat O) → Position
position_at m None = Start
position_at m (Some seat) = m.place seat.op

-- an operator is finished; behind the operators stands the replay
abbrev pub done_at : {O : Type 0} → Bool → Option (Seat O) → Bool
done_at over None = over
done_at over (Some seat) = not seat.tally.running

abbrev pub holds_at : {O : Type 0} → (Seat O → Type 0) → Option (Seat O) → Type 0
holds_at P None = Unit {0}
holds_at P (Some seat) = P seat

-- these marks and tuples may come to the operator
abbrev pub IsFutureOf : {O : Type 0} → Ghosts O → O → List Entry → Type 0
IsFutureOf m op future = IsFuture (m.takes_marks op) (m.fits op) (m.place op) future

-- the operator is in a valid state, and what comes on its arcs may come to it
pub record FitsArcs {O : Type 0} (m : Ghosts O) (takes : ℕ → Bool) (fits : ℕ → List Value → Bool) (op : O) : Type 0 where
  pub is_valid : m.valid op
  pub marks : (port : ℕ) → takes port ≡ true → m.takes_marks op port ≡ true
  pub tuples : (port : ℕ) (fields : List Value) → fits port fields ≡ true → m.fits op port fields ≡ true

-- the operator fits its arcs, the tally is its own, and as long as it isn't finished levels of epochs of so many ticks may be read
pub record IsSeat {O : Type 0} (m : Ghosts O) (takes : ℕ → Bool) (fits : ℕ → List Value → Bool) (epoch taken : ℕ) (seat : Seat O) : Type 0 where
  pub arcs : FitsArcs m takes fits seat.op
  pub running : m.running seat.op ≡ seat.tally.running
  pub place : m.place seat.op ≡ seat.tally.place
  pub counted : m.taken seat.op ≡ seat.tally.taken
  pub few : seat.tally.taken ≤ taken
  pub reads : seat.tally.running ≡ true → m.reads seat.op epoch ≡ true

-- as long as the operator runs all that it may still decide is its own
abbrev pub Owns : {O : Type 0} → Ghosts O → (Decision → Type 0) → LevelTable → Seat O → Type 0
Owns m own levels seat =
    m.running seat.op ≡ true → (table : ℕ → ℕ → ℕ) → AgreesWith levels table → (future : List Entry) → IsFutureOf m seat.op future
    → AllByRecursion own (m.decides seat.op table future)

-- what a feed and an end do alike to a seat, where these marks and tuples came, so many of them tuples: the operator is in a valid state, and runs
-- or doesn't as is said here; it stands behind what came and has counted the tuples, and so has the tally; and what may come to it stays the same
pub record SeatAfter {O : Type 0} (m : Ghosts O) (came : List Entry) (tuples : ℕ) (runs : Bool) (seat seat' : Seat O) : Type 0 where
  pub is_valid : m.valid seat'.op
  pub running : m.running seat'.op ≡ runs
  pub moves : m.place seat'.op ≡ after_all (m.place seat.op) came
  pub counted : m.taken seat'.op ≡ m.taken seat.op + tuples
  pub marks : m.takes_marks seat'.op ≡ m.takes_marks seat.op
  pub fits : m.fits seat'.op ≡ m.fits seat.op
  pub place : seat'.tally.place ≡ after_all seat.tally.place came
  pub taken : seat'.tally.taken ≡ seat.tally.taken + tuples

-- what a feed does to a seat: it gives these items and drops these batches, and the item is the last that was fed
pub record FedSeat {O : Type 0} (m : Ghosts O) (levels : LevelTable) (port : ℕ) (item : Item) (outs : List (ℕ × Item)) (drops : List Decision)
    (seat seat' : Seat O) : Type 0 where
  pub law : (table : ℕ → ℕ → ℕ) (future : List Entry) → AgreesWith levels table → IsFutureOf m seat.op (entries port item ++ future)
      → (q : ℕ) → m.rest seat.op table (entries port item ++ future) q ≡ given q outs ++ m.rest seat'.op table future q
  pub decided : (table : ℕ → ℕ → ℕ) (future : List Entry) → AgreesWith levels table → IsFutureOf m seat.op (entries port item ++ future)
      → m.decides seat.op table (entries port item ++ future) ≡ drops ++ m.decides seat'.op table future
  pub loses : (future : List Entry) → m.lost seat.op (entries port item ++ future) ≡ m.lost seat'.op future
  pub times : (table : ℕ → ℕ → ℕ) → AgreesWith levels table → (q : ℕ) → ThingsUpTo item.time (m.rest seat.op table (entries port item) q)
  pub sound : ItemsSound outs
  pub after : SeatAfter m (entries port item) (if is_some item.body then 1 else 0) true seat seat'
  pub reads : m.reads seat'.op ≡ m.reads seat.op
  pub open_still : seat'.tally.running ≡ seat.tally.running
  pub came : seat'.fed.items ≡ seat.fed.items ++ (port, item) ∷ []

-- what an end does to a seat: nothing more comes, nothing is left, and no item was fed
pub record FinishedSeat {O : Type 0} (m : Ghosts O) (outs : List (ℕ × Item)) (drops : List Decision) (seat seat' : Seat O) : Type 0 where
  pub law : (table : ℕ → ℕ → ℕ) (q : ℕ) → m.rest seat.op table [] q ≡ given q outs
  pub decided : (table : ℕ → ℕ → ℕ) → m.decides seat.op table [] ≡ drops
  pub loses : m.lost seat.op [] ≡ m.lost seat'.op []
  pub empty : (table : ℕ → ℕ → ℕ) (q : ℕ) → m.rest seat'.op table [] q ≡ []
  pub settled : (table : ℕ → ℕ → ℕ) → m.decides seat'.op table [] ≡ []
  pub sound : ItemsSound outs
  pub after : SeatAfter m [] 0 false seat seat'
  pub closed : seat'.tally.running ≡ false
  pub none_came : seat'.fed ≡ seat.fed
