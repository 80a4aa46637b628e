-- A flow of which nothing is to come any more.
use Rattle.std.specs.Prelude.{◌≡◌, ℕ, ◌+◌, ◌<◌, List, [], Option, Some, length, slice_get}
use Rattle.sq_item.specs.declared.Item.{Item}
use Rattle.sq_outside.specs.Disks.{Pages}
use Rattle.sq_oper.specs.declared.operator.Operator.{Ghosts}
use Rattle.sq_flow.specs.declared.flow.Flow.{Flow}
use Rattle.sq_flow.specs.Flows.{HoldsItems, items_in, lines_left, decisions_left, fed_at_last, lost_at_last, work_at_last, taken_in_all, left_on}
use Rattle.sq_flow.specs.Seats.{taken_at, lost_at}
use Rattle.sq_flow.specs.Wiring.{arcs_read}

-- this holds of the items that stand on the arcs, by whatever pages the disk has, at each table of levels at which the flow holds them
abbrev pub WhereHeld : {O : Type 0} → Ghosts O → Flow O → ((ℕ → ℕ → ℕ) → (ℕ → List Item) → Type 0) → Type 0
WhereHeld m flow P = (pages : Option Pages) (table : ℕ → ℕ → ℕ) → HoldsItems m table (items_in flow pages) flow → P table (items_in flow pages)

-- nothing is pending of any output, drop or arc, and each operator was fed, and has lost, as many tuples as it will have been fed and have lost at
-- the end
pub record NothingComes {O : Type 0} (m : Ghosts O) (flow : Flow O) : Type 0 where
  pub lines : WhereHeld m flow (λ table items. (output : ℕ) → flow.wires.shown + output < length flow.seats.items → lines_left m table items flow output ≡ [])
  pub drops : WhereHeld m flow (λ table items. (seat : ℕ) → seat < length flow.seats.items → decisions_left m table items flow seat ≡ [])
  pub fed : WhereHeld m flow (λ table items. (seat : ℕ) → seat < length flow.seats.items
      → fed_at_last m table items flow seat ≡ taken_at m (slice_get flow.seats.items seat))
  pub lost : WhereHeld m flow (λ table items. (seat : ℕ) → seat < length flow.seats.items
      → lost_at_last m table items flow seat ≡ lost_at m (slice_get flow.seats.items seat) [])
  pub work : WhereHeld m flow (λ table items. work_at_last m table items flow ≡ taken_in_all m flow)
  pub arcs : WhereHeld m flow (λ table items. (seat port arc : ℕ) → seat < length flow.seats.items → slice_get (arcs_read flow.wires seat) port ≡ Some arc
      → left_on m table items flow arc ≡ [])
