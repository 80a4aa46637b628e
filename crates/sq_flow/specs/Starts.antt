-- Seats to which nothing was fed.
use Rattle.std.specs.Prelude.{◌≡◌, ℕ, ◌^◌, ◌<◌, ◌≤◌, Bool, true, false, List, [], length, map, Option, None, Vec, slice_get}
use Rattle.sq_value.specs.declared.Value.{Value}
use Rattle.std.specs.List.{AllByRecursion, flat_map}
use Rattle.sq_words.specs.Lists.{numbers_to}
use Rattle.sq_plan.specs.PlanRows.{shown_after}
use Rattle.sq_oper.specs.declared.operator.Operator.{Ghosts}
use Rattle.sq_oper.specs.declared.tally.Position.TheVariants.{Start}
use Rattle.sq_oper.specs.declared.outs.Decision.{Decision}
use Rattle.sq_oper.specs.Entries.{Entry}
use Rattle.sq_oper.specs.Order.{IsFuture}
use Rattle.std.specs.declared.alloc.Global.{Global}
use Rattle.sq_outside.specs.Disks.{Pages}
use Rattle.sq_road.specs.Levels.{LevelTable}
use Rattle.sq_plan.specs.Plans.{Setting}
use Rattle.sq_queue.specs.Faces.{face, frames, items_on, Together}
use Rattle.sq_replay.specs.RecordedTuples.{Recorded}
use Rattle.sq_flow.specs.declared.wires.Wires.{Wires}
use Rattle.sq_flow.specs.declared.flow.Flow.{Flow}
use Rattle.sq_flow.specs.declared.seats.Seat.{Seat}
use Rattle.sq_flow.specs.Flows.{tuples_to_come, RiseFrom, IsFlow}
use Rattle.sq_plan.specs.Arrivals.{arrivals}
use Rattle.sq_flow.specs.Plans.{IsPlanned, last_arrival, plans_left}
use Rattle.sq_flow.specs.Seats.{FitsArcs, holds_at}
use Rattle.sq_flow.specs.Tails.{Tails, sources_with, with_tails, MayFit}
use Rattle.sq_flow.specs.Wiring.{net_of, IsOwn, IsShaped}

-- the operator is new and fits its arcs, all that it may decide is its own, and levels of epochs of so many ticks may be read
pub record IsNewSeat {O : Type 0} (m : Ghosts O) (takes : ℕ → Bool) (fits : ℕ → List Value → Bool) (own : Decision → Type 0) (epoch : ℕ)
    (seat : Seat O) : Type 0 where
  pub arcs : FitsArcs m takes fits seat.op
  pub running : m.running seat.op ≡ true
  pub place : m.place seat.op ≡ Start
  pub taken : m.taken seat.op ≡ 0
  pub holds_none : (table : ℕ → ℕ → ℕ) (port : ℕ) → m.rest seat.op table [] port ≡ []
  pub at_start : seat.tally.place ≡ Start
  pub none_counted : seat.tally.taken ≡ 0
  pub open_now : seat.tally.running ≡ true
  pub reads : m.reads seat.op epoch ≡ true
  pub owns : (table : ℕ → ℕ → ℕ) (future : List Entry) → IsFuture (m.takes_marks seat.op) (m.fits seat.op) Start future
      → AllByRecursion own (m.decides seat.op table future)

-- few sources, of each no more known tuples than can be counted, in the order of times, and from which tick on more may come
pub record AreNewSources (sources : List Recorded) (ahead : List (Option ℕ)) : Type 0 where
  pub coming : (source : ℕ) → RiseFrom 0 (tuples_to_come (slice_get sources source))
  pub told : length ahead ≡ length sources
  pub few : length sources < 2 ^ 32
  pub few_tuples : (source : ℕ) → length (tuples_to_come (slice_get sources source)) ≤ 2 ^ 62

-- the parts of a new flow: the operators are joined by these wires, nothing was fed to them, the sources are few and in the order of times, no
-- level is known, and there are two frames at least
pub record AreNewParts {O : Type 0} (m : Ghosts O) (wires : Wires) (ops : List (Seat O)) (streams : List Recorded) (ahead : List (Option ℕ)) (table : LevelTable) (most : ℕ) : Type 0 where
  pub shaped : IsShaped wires (length ops)
  pub seats : (seat : ℕ) → holds_at (IsNewSeat m ((net_of wires).takes seat) ((net_of wires).fits seat) (IsOwn wires seat) table.epoch) (slice_get ops seat)
  pub sources : AreNewSources streams ahead
  pub levels : (table.closed ≡ 1) × (table.rows ≡ [])
  pub frames : 2 ≤ most

-- a flow of these parts that has released nothing, whose queues are empty and have so many frames
pub record IsNewFlow {O : Type 0} (wires : Wires) (seats : Vec (Seat O) Global) (sources : Vec Recorded Global)
    (ahead : List (Option ℕ)) (planner : Setting) (levels : LevelTable) (most : ℕ) (flow : Flow O) : Type 0 where
  pub wires_are : flow.wires ≡ wires
  pub seats_are : flow.seats ≡ seats
  pub sources_are : flow.sources ≡ sources
  pub ahead_are : flow.ahead.items ≡ ahead
  pub planner_is : flow.planner ≡ planner
  pub levels_are : flow.levels ≡ levels
  pub runs : flow.over ≡ false
  pub framed : frames flow.queues ≡ most
  pub none_taken : flow.taken ≡ 0
  pub bare : (arc : ℕ) → face flow.queues arc ≡ record { count = 0; first = None; ended = false }
  pub empty : (pages : Option Pages) (arc : ℕ) → items_on flow.queues pages arc ≡ []
  pub together : (pages : Option Pages) → Together flow.queues pages

-- the levels of a flow are planned for what arrives of these sources, and all its plans are still to be shown
pub record PlansAll {O : Type 0} (sources : List Recorded) (planner : Setting) (epoch : ℕ) (e : Flow O) : Type 0 where
  pub planned : IsPlanned (arrivals epoch (map (λ s. s.items) sources)) e
  pub plans : plans_left e ≡ flat_map (shown_after planner (arrivals epoch (map (λ s. s.items) sources))) (numbers_to (last_arrival epoch (map (λ s. s.items) sources)))

-- a flow of these parts that is sound, and so it is with whatever may come; its plans are those of what is known, and with what may come
pub record BeginsFlow {O : Type 0} (m : Ghosts O) (wires : Wires) (seats : Vec (Seat O) Global) (sources : Vec Recorded Global)
    (ahead : List (Option ℕ)) (planner : Setting) (levels : LevelTable) (most : ℕ) (e : Flow O) : Type 0 where
  pub flow : IsFlow m e
  pub parts : IsNewFlow wires seats sources ahead planner levels most e
  pub plans : PlansAll sources.items planner levels.epoch e
  pub fits : MayFit m sources.items ahead e
  pub plans_on : (tails : Tails) → PlansAll (sources_with tails sources.items) planner levels.epoch (with_tails tails e)
