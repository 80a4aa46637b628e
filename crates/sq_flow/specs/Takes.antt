-- Which items may be fed.
use Rattle.std.specs.Prelude.{◌≡◌, ℕ, ◌==◌, ◌≤◌, ◌&&◌, ◌||◌, nat_lt, nat_le, Bool, true, false, List, Option, Some, None, if◌then◌else◌}
use Rattle.sq_value.specs.declared.Kind.{Kind}
use Rattle.sq_value.specs.declared.Value.{Value}
use Rattle.sq_value.specs.Values.{kinds_fit}
use Rattle.sq_item.specs.declared.Item.{Item}
use Rattle.sq_item.specs.declared.Mark.{Mark}
use Rattle.sq_oper.specs.declared.tally.Position.{Position}
use Rattle.sq_oper.specs.declared.tally.Position.TheVariants.{Start, At}
use Rattle.sq_oper.specs.Entries.{entries}
use Rattle.sq_oper.specs.Order.{IsFuture}
use Rattle.sq_flow.specs.declared.wires.Arc.{Arc}
use Rattle.sq_flow.specs.declared.errors.RunErr.{RunErr}
use Rattle.sq_flow.specs.declared.errors.RunErr.TheVariants as error

abbrev pub takes_of : Arc → ℕ → Bool
takes_of at port = at.marked

abbrev pub fits_of : Arc → ℕ → List Value → Bool
fits_of at port fields = kinds_fit at.kinds fields

-- an item may come from an arc to a port of an operator that stands at this place
pub record MayBeFed (at : Arc) (port : ℕ) (place : Position) (clock : ℕ) (item : Item) : Type 0 where
  pub in_time : item.time ≤ clock
  pub future : IsFuture (takes_of at) (fits_of at) place (entries port item)

-- what begins with a mark, or with a tuple, may stand here
abbrev pub may_stand : Position → ℕ → ℕ → Bool → Bool
may_stand Start port time mark = true
may_stand (At last before marked) port time mark =
    nat_lt last time || (last == time && (if mark then marked && nat_lt before port else nat_le before port))

abbrev pub mark_fits : Bool → Option Mark → Bool
mark_fits marked None = true
mark_fits marked (Some m) = marked

abbrev pub kinds_take : List Kind → Option (List Value) → Bool
kinds_take kinds None = true
kinds_take kinds (Some fields) = kinds_fit kinds fields

-- an error that may come over a disk that is known: a page that came back changed is garbled, and over an honest disk none is
abbrev pub NotChanged : Bool → RunErr → Type 0
NotChanged honest error.Disk = Unit {0}
NotChanged honest (error.Garbled page kept got) = honest ≡ false
NotChanged honest (error.NotAPage page bytes) = ⊥
NotChanged honest (error.Strange arc item) = ⊥
NotChanged honest error.TooMuch = Unit {0}
NotChanged honest error.Memory = Unit {0}
