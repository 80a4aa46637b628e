-- An engine: a flow whose ready actors are listed.
-- An actor is named by two numbers. By its seat the flow's wires, drops and outputs count: the first operator sits at 0, the replay behind
-- the last. By its number it is picked, listed and counted for: the replay is actor 0, the operator at seat k is actor k + 1. So who
-- picks knows the replay without knowing how many operators there are, and it comes first where actors are listed in ascending number.
use Rattle.std.specs.Prelude.{◌≡◌, ℕ, ◌+◌, ◌-◌, ◌≤◌, ◌==◌, ◌&&◌, Bool, true, false, not, List, [], ◌∷◌, ◌++◌, map, length, slice_get, slice_index}
use Rattle.std.specs.Prelude.{if◌then◌else◌}
use Rattle.std.specs.List.{filter, range_with_len}
use Rattle.sq_sched.specs.ReadyLists.{without_actor, AreActors, OnlyOnce}
use Rattle.sq_oper.specs.declared.operator.Operator.{Ghosts}
use Rattle.sq_flow.specs.declared.flow.Flow.{Flow}
use Rattle.sq_flow.specs.declared.engine.Engine.{Engine}
use Rattle.sq_flow.specs.Wiring.{followers_of}
use Rattle.sq_flow.specs.Seats.{done_at}
use Rattle.sq_flow.specs.Flows.{IsFlow}
use Rattle.sq_flow.specs.Readiness.{IsReady, is_ready, waiting}
use Rattle.sq_words.specs.Lists.{contains_number}

-- the seat of an actor: the replay, which is actor 0, sits behind so many operators
abbrev pub seat_number : ℕ → ℕ → ℕ
seat_number ops actor = if actor == 0 then ops else actor - 1

-- an actor is listed exactly where it is ready
pub record ExactFor {O : Type 0} (flow : Flow O) (list : List ℕ) (actor : ℕ) : Type 0 where
  pub listed : contains_number list actor ≡ true → IsReady flow (seat_number (length flow.seats.items) actor)
  pub ready : IsReady flow (seat_number (length flow.seats.items) actor) → contains_number list actor ≡ true

-- an actor is ready and isn't listed
abbrev pub is_new : {O : Type 0} → Flow O → List ℕ → ℕ → Bool
is_new flow list actor = is_ready flow (seat_number (length flow.seats.items) actor) && not (contains_number list actor)

-- of all actors those that are ready and weren't listed before, ascending
abbrev pub newly_ready : {O : Type 0} → Flow O → List ℕ → List ℕ
newly_ready flow before = filter (is_new flow before) (range_with_len 0 (length flow.seats.items + 1))

-- the list after a step of an actor: without it, then the actor if it is still ready, then those that became ready, ascending
abbrev pub listed_after : {O : Type 0} → Flow O → List ℕ → ℕ → List ℕ
listed_after flow before actor =
    without_actor actor before ++ (if is_ready flow (seat_number (length flow.seats.items) actor) then actor ∷ [] else []) ++ newly_ready flow before

-- the actors that read from the one at a seat
abbrev pub readers_of : {O : Type 0} → Flow O → ℕ → List ℕ
readers_of flow seat = map (λ follower. follower + 1) (followers_of flow.wires seat)

-- what a look at some actors does: those that are ready and weren't listed are listed last, in their order, and how many items
-- wait for each is counted; nothing else changes
pub record Looked {O : Type 0} (seen : List ℕ) (engine engine' : Engine O) : Type 0 where
  pub flow : engine'.flow ≡ engine.flow
  pub failed : engine'.failed ≡ engine.failed
  pub actors : engine'.ready.actors ≡ engine.ready.actors
  pub list : engine'.ready.list ≡ engine.ready.list ++ filter (is_new engine.flow engine.ready.list) seen
  pub waits : (actor : ℕ) → slice_index engine'.waits.items actor
      ≡ (if contains_number seen actor then waiting engine.flow (seat_number (length engine.flow.seats.items) actor) else slice_index engine.waits.items actor)
  pub waits_len : length engine'.waits.items ≡ length engine.waits.items

-- there is room for each actor of the flow
pub record HasSeats {O : Type 0} (engine : Engine O) : Type 0 where
  pub actors : engine.ready.actors ≡ length engine.flow.seats.items + 1
  pub waits : length engine.waits.items ≡ length engine.flow.seats.items + 1

-- its actors may be looked at
pub record MayLook {O : Type 0} (m : Ghosts O) (engine : Engine O) : Type 0 where
  pub flow : IsFlow m engine.flow
  pub room : HasSeats engine

pub record IsEngine {O : Type 0} (m : Ghosts O) (engine : Engine O) : Type 0 where
  pub flow : IsFlow m engine.flow
  pub room : HasSeats engine
  pub exact : (actor : ℕ) → actor ≤ length engine.flow.seats.items → ExactFor engine.flow engine.ready.list actor
  pub below : AreActors engine.ready.actors engine.ready.list
  pub once : OnlyOnce engine.ready.list
  pub waits : (actor : ℕ) → actor ≤ length engine.flow.seats.items
      → slice_index engine.waits.items actor ≡ waiting engine.flow (seat_number (length engine.flow.seats.items) actor)
  pub running : engine.failed ≡ false

-- all actors are finished
abbrev pub AllDone : {O : Type 0} → Flow O → Type 0
AllDone flow = (seat : ℕ) → seat ≤ length flow.seats.items → done_at flow.over (slice_get flow.seats.items seat) ≡ true
