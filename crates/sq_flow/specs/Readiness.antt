-- Which actors are ready.
use Rattle.std.specs.Prelude.{◌≡◌, ◌≢◌, ℕ, ◌+◌, ◌-◌, ◌^◌, ◌<◌, ◌≤◌, ◌&&◌, ◌||◌, ◌==◌, Bool, true, false, not, length, map, min, sum, Some, is_some}
use Rattle.std.specs.Prelude.{slice_get, if◌then◌else◌}
use Rattle.std.specs.List.{list_all, sum_by}
use Rattle.sq_paged.specs.Fronts.{Face}
use Rattle.sq_queue.specs.Faces.{face}
use Rattle.sq_flow.specs.declared.flow.Flow.{Flow}
use Rattle.sq_flow.specs.declared.flow.Did.{Did}
use Rattle.sq_flow.specs.declared.flow.Did.TheVariants.{Waits, Fed, Finished}
use Rattle.sq_flow.specs.Wiring.{arcs_read, from_of, to_of}
use Rattle.sq_flow.specs.Seats.{done_at}
use Rattle.sq_flow.specs.Flows.{IsFlow, count_all}
use Rattle.sq_flow.specs.Sources.{is_clear}
use Rattle.sq_oper.specs.declared.operator.Operator.{Ghosts}

-- an item stands first on the arc, or the arc has ended
abbrev pub stands : Face → Bool
stands f = is_some f.first || f.ended

-- a sound flow has an actor at a seat
pub record HasActor {O : Type 0} (m : Ghosts O) (e : Flow O) (seat : ℕ) : Type 0 where
  pub flow : IsFlow m e
  pub actor_in : seat ≤ length e.seats.items

-- the replay waits for no source
abbrev pub replay_goes : {O : Type 0} → Flow O → ℕ → Bool
replay_goes flow seat = if seat == length flow.seats.items then is_clear flow.sources.items flow.ahead.items else true

-- the actor at a seat isn't finished and waits for no arc, and the replay for no source
pub record IsReady {O : Type 0} (flow : Flow O) (seat : ℕ) : Type 0 where
  pub running : done_at flow.over (slice_get flow.seats.items seat) ≡ false
  pub standing : (port arc : ℕ) → slice_get (arcs_read flow.wires seat) port ≡ Some arc → stands (face flow.queues arc) ≡ true
  pub going : replay_goes flow seat ≡ true

-- the same as a test
abbrev pub is_ready : {O : Type 0} → Flow O → ℕ → Bool
is_ready flow seat =
    not (done_at flow.over (slice_get flow.seats.items seat)) && (list_all (λ arc. stands (face flow.queues arc)) (arcs_read flow.wires seat) && replay_goes flow seat)

-- what a call of one actor leaves alone: arcs that it neither reads nor writes keep their faces, those that it doesn't read only
-- grow, no other actor begins or ends, and none but the replay takes from the sources
pub record TouchesOnly {O : Type 0} (seat : ℕ) (flow flow' : Flow O) : Type 0 where
  pub apart : (arc : ℕ) → arc < length flow.wires.arcs.items → to_of (slice_get flow.wires.arcs.items arc) ≢ seat
      → from_of (slice_get flow.wires.arcs.items arc) ≢ seat → face flow'.queues arc ≡ face flow.queues arc
  pub grows : (arc : ℕ) → arc < length flow.wires.arcs.items → to_of (slice_get flow.wires.arcs.items arc) ≢ seat
      → stands (face flow.queues arc) ≡ true → stands (face flow'.queues arc) ≡ true
  pub others : (other : ℕ) → other ≤ length flow.seats.items → other ≢ seat
      → done_at flow'.over (slice_get flow'.seats.items other) ≡ done_at flow.over (slice_get flow.seats.items other)
  pub sources : seat ≢ length flow.seats.items → flow'.sources ≡ flow.sources
  pub ahead : flow'.ahead ≡ flow.ahead

-- how many items wait for an actor, as far as a u64 counts
abbrev pub waiting : {O : Type 0} → Flow O → ℕ → ℕ
waiting flow seat = min (2 ^ 64 - 1) (sum (map (λ arc. (face flow.queues arc).count) (arcs_read flow.wires seat)))

-- how many items an actor may still take by itself: those that stand on the arcs that it reads, or what the replay has to release
abbrev pub to_take : {O : Type 0} → Flow O → ℕ → ℕ
to_take flow seat =
    if seat == length flow.seats.items then count_all flow.sources.items else sum_by (λ arc. (face flow.queues arc).count) (arcs_read flow.wires seat)

-- an actor took so many items, and then it is finished or not
pub record Took {O : Type 0} (seat fed : ℕ) (finished : Bool) (flow flow' : Flow O) : Type 0 where
  pub falls : to_take flow' seat + fed ≡ to_take flow seat
  pub done : finished ≡ done_at flow'.over (slice_get flow'.seats.items seat)

-- a step that feeds takes one item, and one that finishes an actor none
abbrev pub TookBy : {O : Type 0} → ℕ → Did → Flow O → Flow O → Type 0
TookBy seat Waits flow flow' = Unit {0}
TookBy seat Fed flow flow' = Took seat 1 false flow flow'
TookBy seat Finished flow flow' = Took seat 0 true flow flow'

-- a fact of a step that waits
abbrev pub WaitsOnly : Did → Type 0 → Type 0
WaitsOnly Waits P = P
WaitsOnly Fed P = Unit {0}
WaitsOnly Finished P = Unit {0}

-- the measure fell by so many feeds, and by one more at the end of an actor
abbrev pub FallsBy : ℕ → Bool → ℕ → ℕ → Type 0
FallsBy fed finished before after = after + fed + (if finished then 1 else 0) ≤ before
