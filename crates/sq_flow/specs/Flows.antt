-- What an engine holds, and what each step keeps.
use Rattle.std.specs.Prelude.{◌≡◌, ℕ, zero, suc, ◌+◌, ◌-◌, ◌^◌, ◌/◌, ◌≤◌, ◌<◌, Bool, true, List, [], ◌∷◌, ◌++◌, length, Option, Some, None, slice_get}
use Rattle.std.specs.Prelude.{slice_index, if◌then◌else◌}
use Rattle.sq_value.specs.declared.Tuple.{Tuple}
use Rattle.sq_item.specs.declared.Item.{Item}
use Rattle.sq_item.specs.Things.{Thing, spread_all}
use Rattle.sq_outside.specs.Disks.{Pages}
use Rattle.sq_road.specs.Levels.{LevelTable, AgreesWith}
use Rattle.sq_words.specs.Lists.{IsPrefixOf}
use Rattle.sq_oper.specs.declared.operator.Operator.{Ghosts}
use Rattle.sq_oper.specs.declared.outs.Decision.{Decision}
use Rattle.sq_oper.specs.declared.outs.Event.{Event}
use Rattle.sq_oper.specs.Outflow.{given, ThingsUpTo}
use Rattle.sq_oper.specs.Streams.{things, IsSoundTuple, tuples_in}
use Rattle.sq_left.specs.Remainder.{Holding, Facts, coming, inputs, left, still_dropped, lost_in_all, fed_in_all}
use Rattle.sq_left.specs.Heads.{AllFine}
use Rattle.sq_pool.specs.Trust.{Tells}
use Rattle.sq_queue.specs.Faces.{face, size, frames, items_on, Together}
use Rattle.sq_replay.specs.RecordedTuples.{Recorded}
use Rattle.sq_flow.specs.declared.seats.Seat.{Seat}
use Rattle.sq_flow.specs.declared.flow.Flow.{Flow}
use Rattle.sq_flow.specs.declared.errors.RunErr.{RunErr}
use Rattle.sq_flow.specs.declared.errors.RunErr.TheVariants.{TooMuch}
use Rattle.sq_flow.specs.declared.flow.Did.{Did}
use Rattle.sq_flow.specs.declared.flow.Did.TheVariants.{Waits, Fed, Finished}
use Rattle.sq_flow.specs.Takes.{NotChanged}
use Rattle.sq_flow.specs.Wiring.{net_of, from_of, arcs_read, IsOwn, IsShaped}
use Rattle.sq_flow.specs.Seats.{rest_at, decides_at, lost_at, taken_at, fed_items_at, position_at, done_at, holds_at, IsSeat, Owns}
use Rattle.sq_flow.specs.Events.{lines_of, drops_of, ShowsIn}
use Rattle.sq_flow.specs.Plans.{IsPlanned, plans_left, plans_of}

abbrev pub tuples_to_come : Option Recorded → List Tuple
tuples_to_come None = []
tuples_to_come (Some tuples) = tuples.items

-- from which tick on more may come of a source: none where no more comes
abbrev pub more_from : Option (Option ℕ) → Option ℕ
more_from None = None
more_from (Some from) = from

-- what is known of a source and still to be released
abbrev pub to_release : {O : Type 0} → Flow O → ℕ → List Tuple
to_release flow source = tuples_to_come (slice_get flow.sources.items source)

-- what a run holds, in the words of the law of operators, where these items stand on the arcs
abbrev pub world_of : {O : Type 0} → Ghosts O → (ℕ → ℕ → ℕ) → (ℕ → List Item) → Flow O → Holding
world_of m table items flow =
    record {
      rest = λ seat. rest_at m table (slice_get flow.seats.items seat);
      decide = λ seat. decides_at m table (slice_get flow.seats.items seat);
      lost = λ seat. lost_at m (slice_get flow.seats.items seat);
      taken = λ seat. taken_at m (slice_get flow.seats.items seat);
      place = λ seat. position_at m (slice_get flow.seats.items seat);
      done = λ seat. done_at flow.over (slice_get flow.seats.items seat);
      queue = λ arc. spread_all (items arc);
      source = λ port. things (to_release flow port);
    }

abbrev pub items_in : {O : Type 0} → Flow O → Option Pages → ℕ → List Item
items_in flow pages = items_on flow.queues pages

-- tuples that may be items, at times that don't fall, from this time on
abbrev pub RiseFrom : ℕ → List Tuple → Type 0
RiseFrom time [] = Unit {0}
RiseFrom time (x ∷ xs) = (time ≤ x.time) × IsSoundTuple x × RiseFrom x.time xs

-- what a replay has still to release: few sources, the tuples of each from the clock on in the order of times, no more of each than can be
-- counted, with those that were, and nothing where it is over. Of each source it is told from which tick on more may come
pub record IsReplaying (sources : List Recorded) (ahead : List (Option ℕ)) (clock : ℕ) (counts : List ℕ) (over : Bool) : Type 0 where
  pub few_sources : length sources < 2 ^ 32
  pub coming : (source : ℕ) → RiseFrom clock (tuples_to_come (slice_get sources source))
  pub told : length ahead ≡ length sources
  pub counted : length counts ≡ length sources
  pub few_tuples : (source : ℕ) → slice_index counts source + length (tuples_to_come (slice_get sources source)) ≤ 2 ^ 62
  pub ends : over ≡ true → (source : ℕ) → tuples_to_come (slice_get sources source) ≡ []
  pub closed : over ≡ true → (source : ℕ) → more_from (slice_get ahead source) ≡ None

-- what each step keeps, over every disk
pub record IsFlow {O : Type 0} (m : Ghosts O) (flow : Flow O) : Type 0 where
  pub shaped : IsShaped flow.wires (length flow.seats.items)
  pub lanes : size flow.queues ≡ length flow.wires.arcs.items
  pub ended : (arc : ℕ) → arc < length flow.wires.arcs.items
      → (face flow.queues arc).ended ≡ done_at flow.over (slice_get flow.seats.items (from_of (slice_get flow.wires.arcs.items arc)))
  pub seats : (seat : ℕ) → holds_at (IsSeat m ((net_of flow.wires).takes seat) ((net_of flow.wires).fits seat) flow.levels.epoch flow.taken)
      (slice_get flow.seats.items seat)
  pub few : flow.taken < 2 ^ 62
  pub held : (table : ℕ → ℕ → ℕ) → AgreesWith flow.levels table
      → (seat port : ℕ) → ThingsUpTo flow.clock (rest_at m table (slice_get flow.seats.items seat) [] port)
  pub replay : IsReplaying flow.sources.items flow.ahead.items flow.clock flow.counts.items flow.over
  pub levels : (flow.levels.closed ≡ flow.clock / flow.levels.epoch + 1) × (flow.clock < 2 ^ 40)
  pub owned : (seat : ℕ) → holds_at (Owns m (IsOwn flow.wires seat) flow.levels) (slice_get flow.seats.items seat)

-- and at one table of levels, where these items stand on the arcs
pub record HoldsItems {O : Type 0} (m : Ghosts O) (table : ℕ → ℕ → ℕ) (items : ℕ → List Item) (flow : Flow O) : Type 0 where
  pub facts : Facts (net_of flow.wires) (world_of m table items flow) flow.wires.order.items
  pub queued : (arc : ℕ) → AllFine flow.clock (items arc)

-- the tuples that an output will still show
abbrev pub lines_left : {O : Type 0} → Ghosts O → (ℕ → ℕ → ℕ) → (ℕ → List Item) → Flow O → ℕ → List Tuple
lines_left m table items flow output = tuples_in (coming (net_of flow.wires) (world_of m table items flow) flow.wires.order.items (flow.wires.shown + output) 0)

-- the batches that an operator will still drop
abbrev pub decisions_left : {O : Type 0} → Ghosts O → (ℕ → ℕ → ℕ) → (ℕ → List Item) → Flow O → ℕ → List Decision
decisions_left m table items flow seat = still_dropped (net_of flow.wires) (world_of m table items flow) flow.wires.order.items seat

-- what is still to be taken from an arc: what stands on it, and then what will still come
abbrev pub left_on : {O : Type 0} → Ghosts O → (ℕ → ℕ → ℕ) → (ℕ → List Item) → Flow O → ℕ → List Thing
left_on m table items flow arc = left (net_of flow.wires) (world_of m table items flow) flow.wires.order.items arc

-- what an operator was fed at a port
abbrev pub fed_on : {O : Type 0} → Flow O → ℕ → ℕ → List Thing
fed_on flow seat port = given port (fed_items_at (slice_get flow.seats.items seat))

-- how many tuples an operator will have been fed at the end, and how many of them it will have lost
abbrev pub fed_at_last : {O : Type 0} → Ghosts O → (ℕ → ℕ → ℕ) → (ℕ → List Item) → Flow O → ℕ → ℕ
fed_at_last m table items flow seat = fed_in_all (net_of flow.wires) (world_of m table items flow) flow.wires.order.items seat

abbrev pub lost_at_last : {O : Type 0} → Ghosts O → (ℕ → ℕ → ℕ) → (ℕ → List Item) → Flow O → ℕ → ℕ
lost_at_last m table items flow seat = lost_in_all (net_of flow.wires) (world_of m table items flow) flow.wires.order.items seat

abbrev pub sum_below : (ℕ → ℕ) → ℕ → ℕ
sum_below f zero = 0
sum_below f (suc n) = sum_below f n + f n

-- how many tuples all operators were fed, and how many they will have been fed at the end
abbrev pub taken_in_all : {O : Type 0} → Ghosts O → Flow O → ℕ
taken_in_all m flow = sum_below (λ seat. taken_at m (slice_get flow.seats.items seat)) (length flow.seats.items)

abbrev pub work_at_last : {O : Type 0} → Ghosts O → (ℕ → ℕ → ℕ) → (ℕ → List Item) → Flow O → ℕ
work_at_last m table items flow = sum_below (fed_at_last m table items flow) (length flow.seats.items)

-- how many marks and tuples all operators will have taken at the end
abbrev pub turns_at_last : {O : Type 0} → Ghosts O → (ℕ → ℕ → ℕ) → (ℕ → List Item) → Flow O → ℕ
turns_at_last m table items flow =
    flow.taken + sum_below (λ seat. length (inputs (net_of flow.wires) (world_of m table items flow) flow.wires.order.items seat)) (length flow.seats.items)

-- what was shown, and then what is left, stays the same, and so do the numbers of what is fed, lost and taken in all; and at each
-- port of each operator what was fed there, and then what is left of its arc, stays the same
pub record Goes {O : Type 0} (m : Ghosts O) (table : ℕ → ℕ → ℕ) (items items' : ℕ → List Item) (flow flow' : Flow O)
    (events events' : List Event) : Type 0 where
  pub lines : (output : ℕ) → flow.wires.shown + output < length flow.seats.items
      → lines_of output events ++ lines_left m table items flow output ≡ lines_of output events' ++ lines_left m table items' flow' output
  pub drops : (w : ℕ) → flow.wires.sheds + w < flow.wires.shown
      → drops_of w events ++ decisions_left m table items flow (flow.wires.sheds + w)
      ≡ drops_of w events' ++ decisions_left m table items' flow' (flow.wires.sheds + w)
  pub fed : (seat : ℕ) → seat < length flow.seats.items → fed_at_last m table items flow seat ≡ fed_at_last m table items' flow' seat
  pub lost : (seat : ℕ) → seat < length flow.seats.items → lost_at_last m table items flow seat ≡ lost_at_last m table items' flow' seat
  pub turns : turns_at_last m table items flow ≡ turns_at_last m table items' flow'
  pub arcs : (seat port arc : ℕ) → slice_get (arcs_read flow.wires seat) port ≡ Some arc
      → fed_on flow seat port ++ left_on m table items flow arc ≡ fed_on flow' seat port ++ left_on m table items' flow' arc

-- at each table that agrees with these levels, and at which the flow held the items that stood on its arcs, this holds, where the
-- disk is known behind the call
abbrev pub WhereKnown : {O : Type 0} → Ghosts O → Option Pages → Option Pages → Flow O → LevelTable → ((ℕ → ℕ → ℕ) → Type 0) → Type 0
WhereKnown m was is flow levels P = Tells is → (table : ℕ → ℕ → ℕ) → AgreesWith levels table → HoldsItems m table (items_in flow was) flow → P table

-- what falls with each step: what is to be released, what may still be taken, and the actors that aren't finished
abbrev pub open_seats : {O : Type 0} → List (Seat O) → ℕ
open_seats [] = 0
open_seats (seat ∷ seats) = (if seat.tally.running then 1 else 0) + open_seats seats

abbrev pub count_all : List Recorded → ℕ
count_all [] = 0
count_all (tuples ∷ sources) = length tuples.items + count_all sources

abbrev pub measure_of : {O : Type 0} → Flow O → ℕ
measure_of flow = count_all flow.sources.items + (2 ^ 62 - 1 - flow.taken) + (open_seats flow.seats.items + (if flow.over then 0 else 1))

-- what a call that ended Ok did, where no more comes of any source than is known
pub record Stepped {O : Type 0} (m : Ghosts O) (was is : Option Pages) (flow flow' : Flow O) (events events' : List Event) : Type 0 where
  pub flow_after : IsFlow m flow'
  pub together : Together flow'.queues is
  pub tells : Tells is → Tells was
  pub wires : flow'.wires ≡ flow.wires
  pub ahead : flow'.ahead ≡ flow.ahead
  pub framed : frames flow'.queues ≡ frames flow.queues
  pub seats : length flow'.seats.items ≡ length flow.seats.items
  pub closes : (table : ℕ → ℕ → ℕ) → AgreesWith flow'.levels table → AgreesWith flow.levels table
  pub shows : ShowsIn (length flow.seats.items - flow.wires.shown) (flow.wires.shown - flow.wires.sheds) events events'
  pub planner : flow'.planner ≡ flow.planner
  pub planned : (all : ℕ → List ℕ) → IsPlanned all flow → IsPlanned all flow'
  pub plans : plans_of events ++ plans_left flow ≡ plans_of events' ++ plans_left flow'
  pub holds : WhereKnown m was is flow flow'.levels (λ table. HoldsItems m table (items_in flow' is) flow')
  pub goes : WhereKnown m was is flow flow'.levels (λ table. Goes m table (items_in flow was) (items_in flow' is) flow flow' events events')

-- what was shown is a beginning of what was to be shown
pub record BeginsLines {O : Type 0} (m : Ghosts O) (table : ℕ → ℕ → ℕ) (items : ℕ → List Item) (flow : Flow O) (events events' : List Event) : Type 0 where
  pub lines : (output : ℕ) → flow.wires.shown + output < length flow.seats.items
      → IsPrefixOf (lines_of output events') (lines_of output events ++ lines_left m table items flow output)
  pub drops : (w : ℕ) → flow.wires.sheds + w < flow.wires.shown
      → IsPrefixOf (drops_of w events') (drops_of w events ++ decisions_left m table items flow (flow.wires.sheds + w))

-- what a call that failed has shown
abbrev pub ShowsPrefix : {O : Type 0} → Ghosts O → Option Pages → Option Pages → Flow O → LevelTable → List Event → List Event → Type 0
ShowsPrefix m was is flow levels events events' = WhereKnown m was is flow levels (λ table. BeginsLines m table (items_in flow was) flow events events')

-- and over a disk that is known behind it, it names no item and no page but a garbled one, and none over an honest disk
abbrev pub NoneStrange : {O : Type 0} → Ghosts O → Bool → Option Pages → Option Pages → Flow O → LevelTable → RunErr → Type 0
NoneStrange m honest was is flow levels e = WhereKnown m was is flow levels (λ table. NotChanged honest e)

-- a step that does something lowers the measure
abbrev pub Lowers : Did → ℕ → ℕ → Type 0
Lowers Waits before after = after ≡ before
Lowers Fed before after = after + 1 ≤ before
Lowers Finished before after = after + 1 ≤ before

-- a step raises the steps by the tuples that it feeds
abbrev pub CostsFed : {O : Type 0} → Ghosts O → Flow O → Flow O → ℕ → ℕ → Type 0
CostsFed m flow flow' before after = after + taken_in_all m flow ≡ before + taken_in_all m flow'

-- a call that failed raises them by no more than is still to be fed
abbrev pub StepCosts : {O : Type 0} → Ghosts O → Option Pages → Option Pages → Flow O → LevelTable → ℕ → ℕ → Type 0
StepCosts m was is flow levels before after =
    WhereKnown m was is flow levels (λ table. after + taken_in_all m flow ≤ before + work_at_last m table (items_in flow was) flow)

-- too much is taken only where as much is to be taken in all, and where the next item would bring the count past its end
pub record TooMuchOnly {O : Type 0} (m : Ghosts O) (was is : Option Pages) (flow flow' : Flow O) (e : RunErr) : Type 0 where
  pub counted : e ≡ TooMuch → 2 ^ 62 ≤ flow'.taken + 2
  pub turns : e ≡ TooMuch → WhereKnown m was is flow flow'.levels (λ table. 2 ^ 62 ≤ turns_at_last m table (items_in flow was) flow)
