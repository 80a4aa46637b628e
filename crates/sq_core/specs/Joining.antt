-- Wires that join operators as a table of feeds says.
use Rattle.std.specs.Prelude.{◌≡◌, ◌≢◌, ◌⊎◌, ℕ, ◌+◌, ◌*◌, ◌==◌, ◌||◌, ◌≤◌, ◌<◌, ◌^◌, Bool, true, List, [], ◌∷◌, ◌++◌, length, Option, Some, None, Vec}
use Rattle.std.specs.Prelude.{slice_get, if◌then◌else◌}
use Rattle.std.specs.declared.alloc.Global.{Global}
use Rattle.sq_flow.specs.declared.wires.Arc.{Arc}
use Rattle.sq_flow.specs.declared.wires.Wires.{Wires}
use Rattle.sq_flow.specs.Wiring.{numbers_in, rows_in, arcs_read, arcs_from, followers_of, Climbs, from_of, arc_port, to_of, arc_place, times_in, IsShaped}
use Rattle.sq_core.specs.declared.join.Feed.{Feed}
use Rattle.sq_words.specs.Lists.{contains_number}

abbrev pub feeds_in : Option (Vec Feed Global) → List Feed
feeds_in None = []
feeds_in (Some v) = v.items

-- what an operator reads, by port
abbrev pub feeds_of : List (Vec Feed Global) → ℕ → List Feed
feeds_of feeds actor = feeds_in (slice_get feeds actor)

-- an operator that isn't an output, or the replay
abbrev pub IsGiver : ℕ → ℕ → ℕ → Type 0
IsGiver shown ops actor = (actor < shown) ⊎ (actor ≡ ops)

-- a table that can be joined, the operators from `shown` on being outputs: few operators, few ports of each, and no feed comes
-- from an output
pub record AreFeeds (shown : ℕ) (feeds : List (Vec Feed Global)) : Type 0 where
  pub few : length feeds < 2 ^ 20
  pub ports : (actor : ℕ) → length (feeds_of feeds actor) ≤ 8
  pub from_in : (actor port : ℕ) (f : Feed) → slice_get (feeds_of feeds actor) port ≡ Some f → IsGiver shown (length feeds) f.from

-- the number is that of the replay or one of these
abbrev pub known_by : ℕ → List ℕ → ℕ → Bool
known_by replay [] actor = actor == replay
known_by replay (last ∷ earlier) actor = (actor == last) || known_by replay earlier actor

abbrev pub AllKnown : ℕ → List ℕ → List Feed → Type 0
AllKnown replay order [] = Unit {0}
AllKnown replay order (f ∷ fs) = (known_by replay order f.from ≡ true) × AllKnown replay order fs

-- each operator reads the replay and earlier operators alone
abbrev pub ReadsEarlier : ℕ → List (Vec Feed Global) → List ℕ → Type 0
ReadsEarlier replay feeds [] = Unit {0}
ReadsEarlier replay feeds (last ∷ earlier) = (last ≢ replay) × AllKnown replay earlier (feeds_of feeds last) × ReadsEarlier replay feeds earlier

-- an order of all operators, the last first
pub record IsActorOrder (ops : ℕ) (feeds : List (Vec Feed Global)) (order : List ℕ) : Type 0 where
  pub earlier : ReadsEarlier ops feeds order
  pub listed : (actor : ℕ) → known_by ops order actor ≡ true → actor < ops + 1
  pub ordered : (actor : ℕ) → actor < ops → known_by ops order actor ≡ true

-- a table that can be joined, the drops from the first number on and the outputs from the second, and an order of its operators
pub record CanJoin (drops outputs : ℕ) (table : List (Vec Feed Global)) (list : List ℕ) : Type 0 where
  pub feeds : AreFeeds outputs table
  pub sheds : drops ≤ outputs
  pub shown : outputs ≤ length table
  pub order : IsActorOrder (length table) table list

-- an arc is of a feed
abbrev pub IsOf : Option Arc → Option Feed → Type 0
IsOf None f = ⊥
IsOf (Some arc) None = ⊥
IsOf (Some arc) (Some f) = (arc.from ≡ f.from) × (arc.port ≡ f.port) × (arc.kinds ≡ f.kinds) × (arc.marked ≡ f.marked)

-- each operator reads as many arcs as the table says, and each is as it says
pub record IsJoined (feeds : List (Vec Feed Global)) (wires : Wires) : Type 0 where
  pub many : (actor : ℕ) → length (arcs_read wires actor) ≡ length (feeds_of feeds actor)
  pub fed : (actor port arc : ℕ) → slice_get (arcs_read wires actor) port ≡ Some arc
      → IsOf (slice_get wires.arcs.items arc) (slice_get (feeds_of feeds actor) port)

-- wires that join the operators of a table, in this order, the drops and the outputs being those from these numbers on
pub record JoinsAll (drops outputs : ℕ) (table : List (Vec Feed Global)) (list : Vec ℕ Global) (wires : Wires) : Type 0 where
  pub shaped : IsShaped wires (length table)
  pub joined : IsJoined table wires
  pub sheds : wires.sheds ≡ drops
  pub shown : wires.shown ≡ outputs
  pub order : wires.order ≡ list

-- a number is added to a row, and the other rows stay
abbrev pub AddsTo : ℕ → ℕ → List (Vec ℕ Global) → List (Vec ℕ Global) → Type 0
AddsTo row at was is = (r : ℕ) → numbers_in (slice_get is r) ≡ (if r == row then numbers_in (slice_get was r) ++ at ∷ [] else numbers_in (slice_get was r))

-- and there are as many rows as before
pub record AddsAt (row at : ℕ) (was is : List (Vec ℕ Global)) : Type 0 where
  pub len : length is ≡ length was
  pub added : AddsTo row at was is

-- a number is added at a port of an actor, and there are as many actors as before
pub record AddsIn (to place at : ℕ) (was is : List (Vec (Vec ℕ Global) Global)) : Type 0 where
  pub len : length is ≡ length was
  pub added : (actor port : ℕ) → numbers_in (slice_get (rows_in (slice_get is actor)) port)
      ≡ (if actor == to then (if port == place then numbers_in (slice_get (rows_in (slice_get was actor)) port) ++ at ∷ []
      else numbers_in (slice_get (rows_in (slice_get was actor)) port))
      else numbers_in (slice_get (rows_in (slice_get was actor)) port))

-- a number behind these, where it isn't among them
abbrev pub once_more : ℕ → List ℕ → List ℕ
once_more x xs = if contains_number xs x then xs else xs ++ x ∷ []

-- a follower is noted of an actor where it isn't yet, and of no other; there are as many actors as before
pub record AddsFollower (actor follower : ℕ) (was is : List (Vec ℕ Global)) : Type 0 where
  pub len : length is ≡ length was
  pub added : (r : ℕ) → numbers_in (slice_get is r) ≡ (if r == actor then once_more follower (numbers_in (slice_get was r)) else numbers_in (slice_get was r))

-- what no arc changes
pub record Fixed (was is : Wires) : Type 0 where
  pub replay : is.replay ≡ was.replay
  pub sheds : is.sheds ≡ was.sheds
  pub shown : is.shown ≡ was.shown
  pub order : is.order ≡ was.order

-- an arc is added
pub record AddsArc (arc : Arc) (was is : Wires) : Type 0 where
  pub arcs : is.arcs.items ≡ was.arcs.items ++ arc ∷ []
  pub fixed : Fixed was is
  pub inputs : AddsAt arc.to (length was.arcs.items) was.inputs.items is.inputs.items
  pub readers : AddsIn arc.from arc.port (length was.arcs.items) was.readers.items is.readers.items
  pub followers : AddsFollower arc.from arc.to was.followers.items is.followers.items

-- the operators before this one are joined, and of this one so many ports
pub record IsJoining (shown : ℕ) (feeds : List (Vec Feed Global)) (at place : ℕ) (wires : Wires) : Type 0 where
  pub inputs_len : length wires.inputs.items ≡ length feeds
  pub readers_len : length wires.readers.items ≡ length feeds + 1
  pub count : length wires.arcs.items ≤ 8 * at + place
  pub before : (actor : ℕ) → actor < at → length (arcs_read wires actor) ≡ length (feeds_of feeds actor)
  pub now : length (arcs_read wires at) ≡ place
  pub later : (actor : ℕ) → at < actor → length (arcs_read wires actor) ≡ 0
  pub arcs_in : (actor port arc : ℕ) → slice_get (arcs_read wires actor) port ≡ Some arc → arc < length wires.arcs.items
  pub from_in : (arc : ℕ) → arc < length wires.arcs.items → IsGiver shown (length feeds) (from_of (slice_get wires.arcs.items arc))
  pub joined : (actor port arc : ℕ) → slice_get (arcs_read wires actor) port ≡ Some arc
      → (to_of (slice_get wires.arcs.items arc) ≡ actor) × (arc_place (slice_get wires.arcs.items arc) ≡ port)
  pub fed : (actor port arc : ℕ) → slice_get (arcs_read wires actor) port ≡ Some arc
      → IsOf (slice_get wires.arcs.items arc) (slice_get (feeds_of feeds actor) port)
  pub read : (actor port arc : ℕ) → arc < length wires.arcs.items
      → times_in arc (arcs_from wires actor port)
      ≡ (if actor == from_of (slice_get wires.arcs.items arc) then (if port == arc_port (slice_get wires.arcs.items arc) then 1 else 0) else 0)
  pub readers_in : (actor port place arc : ℕ) → slice_get (arcs_from wires actor port) place ≡ Some arc → arc < length wires.arcs.items
  pub followers_len : length wires.followers.items ≡ length feeds + 1
  pub followed : (arc : ℕ) → arc < length wires.arcs.items
      → contains_number (followers_of wires (from_of (slice_get wires.arcs.items arc))) (to_of (slice_get wires.arcs.items arc)) ≡ true
  pub followers_low : (actor follower : ℕ) → contains_number (followers_of wires actor) follower ≡ true → 8 * follower < 8 * at + place
  pub climbs : (actor : ℕ) → Climbs (followers_of wires actor)
