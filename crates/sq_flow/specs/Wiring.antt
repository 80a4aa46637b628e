-- How wires join the actors, and what actors put on arcs.
-- The wires count actors by their seats: the operators sit at 0, 1, .. in the order of `seats`, and the replay sits behind the last of them.
use Rattle.std.specs.Prelude.{◌≡◌, ℕ, ◌+◌, ◌==◌, ◌≤◌, ◌<◌, ◌^◌, Bool, true, false, List, [], ◌∷◌, length, Option, Some, None, Vec, slice_get, if◌then◌else◌}
use Rattle.std.specs.declared.alloc.Global.{Global}
use Rattle.sq_value.specs.declared.Value.{Value}
use Rattle.sq_value.specs.Values.{kinds_fit}
use Rattle.sq_item.specs.declared.Item.{Item}
use Rattle.sq_item.specs.Things.{Thing}
use Rattle.sq_item.specs.SoundItems.{IsSoundItem}
use Rattle.sq_oper.specs.Outflow.{given}
use Rattle.sq_oper.specs.declared.outs.Decision.{Decision}
use Rattle.sq_left.specs.Remainder.{Net, is_known_actor, IsLaidOut}
use Rattle.sq_flow.specs.declared.wires.Arc.{Arc}
use Rattle.sq_flow.specs.declared.wires.Wires.{Wires}
use Rattle.sq_words.specs.Lists.{contains_number}

abbrev pub numbers_in : Option (Vec ℕ Global) → List ℕ
numbers_in None = []
numbers_in (Some v) = v.items

abbrev pub rows_in : Option (Vec (Vec ℕ Global) Global) → List (Vec ℕ Global)
rows_in None = []
rows_in (Some v) = v.items

abbrev pub from_of : Option Arc → ℕ
from_of None = 0
from_of (Some arc) = arc.from

abbrev pub arc_port : Option Arc → ℕ
arc_port None = 0
arc_port (Some arc) = arc.port

abbrev pub to_of : Option Arc → ℕ
to_of None = 0
to_of (Some arc) = arc.to

abbrev pub arc_place : Option Arc → ℕ
arc_place None = 0
arc_place (Some arc) = arc.place

abbrev pub marked_of : Option Arc → Bool
marked_of None = false
marked_of (Some arc) = arc.marked

-- as many values as kinds, each Null or of its kind
abbrev pub fits_on : Option Arc → List Value → Bool
fits_on None fields = false
fits_on (Some arc) fields = kinds_fit arc.kinds fields

-- the arcs that the operator at a seat reads, by port
abbrev pub arcs_read : Wires → ℕ → List ℕ
arcs_read wires seat = numbers_in (slice_get wires.inputs.items seat)

-- the arc at a port
abbrev pub arc_wired : Wires → Option ℕ → Option Arc
arc_wired wires None = None
arc_wired wires (Some at) = slice_get wires.arcs.items at

-- the arcs that come from a port of the actor at a seat
abbrev pub arcs_from : Wires → ℕ → ℕ → List ℕ
arcs_from wires seat port = numbers_in (slice_get (rows_in (slice_get wires.readers.items seat)) port)

-- the seats of the operators that read from the actor at a seat
abbrev pub followers_of : Wires → ℕ → List ℕ
followers_of wires seat = numbers_in (slice_get wires.followers.items seat)

-- each number is greater than the one before
abbrev pub Climbs : List ℕ → Type 0
Climbs [] = Unit {0}
Climbs (x ∷ xs) = ((y : ℕ) → contains_number xs y ≡ true → x < y) × Climbs xs

-- how these wires join the actors
abbrev pub net_of : Wires → Net
net_of wires =
    record {
      replay = wires.replay;
      size = length wires.arcs.items;
      arcs = arcs_read wires;
      from = λ arc. from_of (slice_get wires.arcs.items arc);
      port = λ arc. arc_port (slice_get wires.arcs.items arc);
      takes = λ seat port. marked_of (arc_wired wires (slice_get (arcs_read wires seat) port));
      fits = λ seat port fields. fits_on (arc_wired wires (slice_get (arcs_read wires seat) port)) fields;
    }

-- what items that an actor gives are on a stream
abbrev pub pushed_by : ℕ → List (ℕ × Item) → ℕ → ℕ → List Thing
pushed_by seat outs from to = if seat == from then given to outs else []

abbrev pub AllOutsFine : ℕ → List (ℕ × Item) → Type 0
AllOutsFine time [] = Unit {0}
AllOutsFine time (out ∷ outs) = (out.1.time ≤ time) × IsSoundItem out.1 × AllOutsFine time outs

-- how often a number stands in a list
abbrev pub times_in : ℕ → List ℕ → ℕ
times_in n [] = 0
times_in n (x ∷ xs) = (if x == n then 1 else 0) + times_in n xs

-- a decision is one of the operator at this seat: at the seats `sheds`, `sheds` + 1, .. below `shown` sit the drops 0, 1, ..
abbrev pub IsOwn : Wires → ℕ → Decision → Type 0
IsOwn wires seat d = (wires.sheds + d.drop ≡ seat) × (seat < wires.shown)

-- how many actors there are, and how the arcs lead: each arc stands once among those that come from where it comes from
pub record IsShaped (wires : Wires) (ops : ℕ) : Type 0 where
  pub replay_is : wires.replay ≡ ops
  pub few : ops < 2 ^ 31
  pub few_arcs : length wires.arcs.items < 2 ^ 32
  pub sheds_in : wires.sheds ≤ wires.shown
  pub shown_in : wires.shown ≤ ops
  pub inputs_len : length wires.inputs.items ≡ ops
  pub readers_len : length wires.readers.items ≡ ops + 1
  pub arcs_in : (seat port arc : ℕ) → slice_get (arcs_read wires seat) port ≡ Some arc → arc < length wires.arcs.items
  pub ports : (seat : ℕ) → length (arcs_read wires seat) < 2 ^ 32
  pub from_in : (arc : ℕ) → arc < length wires.arcs.items → from_of (slice_get wires.arcs.items arc) < ops + 1
  pub joined : (seat port arc : ℕ) → slice_get (arcs_read wires seat) port ≡ Some arc
      → (to_of (slice_get wires.arcs.items arc) ≡ seat) × (arc_place (slice_get wires.arcs.items arc) ≡ port)
  pub read : (seat port arc : ℕ) → arc < length wires.arcs.items
      → times_in arc (arcs_from wires seat port)
      ≡ (if seat == from_of (slice_get wires.arcs.items arc) then (if port == arc_port (slice_get wires.arcs.items arc) then 1 else 0) else 0)
  pub readers_in : (seat port place arc : ℕ) → slice_get (arcs_from wires seat port) place ≡ Some arc → arc < length wires.arcs.items
  pub outputs_end : (seat port : ℕ) → wires.shown ≤ seat → seat < ops → arcs_from wires seat port ≡ []
  pub followers_len : length wires.followers.items ≡ ops + 1
  pub followed : (arc : ℕ) → arc < length wires.arcs.items
      → contains_number (followers_of wires (from_of (slice_get wires.arcs.items arc))) (to_of (slice_get wires.arcs.items arc)) ≡ true
  pub followers_in : (seat follower : ℕ) → contains_number (followers_of wires seat) follower ≡ true → follower < ops
  pub followers_climb : (seat : ℕ) → Climbs (followers_of wires seat)
  pub wired : IsLaidOut (net_of wires) wires.order.items
  pub listed : (seat : ℕ) → is_known_actor (net_of wires) wires.order.items seat ≡ true → seat < ops + 1
  pub ordered : (seat : ℕ) → seat < ops → is_known_actor (net_of wires) wires.order.items seat ≡ true
