-- The engine of a network, and what a run of it shows.
use Rattle.std.specs.Prelude.{◌≡◌, ℕ, ◌+◌, ◌^◌, ◌≤◌, ◌<◌, Bool, true, false, List, [], ◌∷◌, length, Option, Some, None, slice_get}
use Rattle.std.specs.List.{AllByRecursion}
use Rattle.sq_words.specs.Lists.{IsPrefixOf}
use Rattle.sq_value.specs.declared.Tuple.{Tuple}
use Rattle.sq_value.specs.Values.{IsStream}
use Rattle.sq_outside.specs.Disks.{Pages}
use Rattle.sq_graph.specs.Wires.{input_arcs_of}
use Rattle.sq_oper.specs.declared.outs.Event.{Event}
use Rattle.sq_oper.specs.Streams.{IsSoundTuple, tuples_in}
use Rattle.sq_net.specs.declared.Network.{Network}
use Rattle.sq_net.specs.SoundNetworks.{IsSound}
use Rattle.sq_place.specs.declared.DropPoint.{DropPoint}
use Rattle.sq_points.specs.Points.{points_of}
use Rattle.sq_points.specs.Limits.{KeepsDropLimits}
use Rattle.sq_model.specs.FittingStreams.{SourcesFit}
use Rattle.sq_model.specs.FullCounts.{late_of}
use Rattle.sq_model.specs.Shedding.{Replay, answer_of}
use Rattle.sq_model.specs.KeptTuples.{fed_of, kept_of, work_of, turns_of}
use Rattle.sq_model.specs.PlanLines.{plans_shown}
use Rattle.sq_actor.specs.declared.actor.Actor.{Actor}
use Rattle.sq_actor.specs.Lateness.{late_by_actor}
use Rattle.sq_pool.specs.Trust.{Tells}
use Rattle.sq_queue.specs.Faces.{Together, frames}
use Rattle.sq_flow.specs.declared.flow.Flow.{Flow}
use Rattle.sq_flow.specs.declared.engine.State.{State}
use Rattle.sq_flow.specs.declared.engine.State.TheVariants.{Running, Waiting, Done, Failed}
use Rattle.sq_flow.specs.declared.seats.Seat.{Seat}
use Rattle.sq_flow.specs.declared.errors.RunErr.{RunErr}
use Rattle.sq_flow.specs.declared.errors.RunErr.TheVariants.{TooMuch}
use Rattle.sq_flow.specs.Events.{lines_of, drops_of}
use Rattle.sq_flow.specs.Seats.{taken_at}
use Rattle.sq_flow.specs.Flows.{fed_on, items_in, more_from, taken_in_all}
use Rattle.sq_flow.specs.Endings.{NothingComes}
use Rattle.sq_flow.specs.Knowing.{IsHeldUp}
use Rattle.sq_flow.specs.Engines.{AllDone, IsEngine}
use Rattle.sq_flow.specs.Plans.{plans_left, plans_of}
use Rattle.sq_flow.specs.Tails.{Tails, Fits, with_tails}
use Rattle.sq_flow.specs.Takes.{NotChanged}
use Rattle.sq_core.specs.declared.engine.Engine.{Engine}
use Rattle.sq_core.specs.Meanings.{actors}
use Rattle.sq_start.specs.Numbers.{first_output, ops_of}
use Rattle.sq_start.specs.Nets.{decisions_of}
use Rattle.sq_start.specs.Starts.{IsReadReplay}
use Rattle.sq_core.specs.Answers.{Plans, KeepsAnswers}

-- what an engine holds, which of its actors are ready, in order, and whether a step of it failed
abbrev pub flow_of : Engine → Flow Actor
flow_of e = e.engine.flow

-- the actors that are ready, as numbers, in the order in which they were listed
abbrev pub ready_of : Engine → List ℕ
ready_of e = e.engine.ready.list

-- a step failed
abbrev pub has_failed : Engine → Bool
has_failed e = e.engine.failed

-- a flow lies as the network says: its operators are the boxes, the window drops and the outputs
pub record IsLaidFor (n : Network) (flow : Flow Actor) : Type 0 where
  pub boxes : flow.wires.sheds ≡ length n.boxes
  pub drops : flow.wires.shown ≡ first_output n
  pub operators : length flow.seats.items ≡ ops_of n

-- what each step keeps, over every disk: the network is sound, and the engine lies as it says
pub record IsSoundEngine (e : Engine) : Type 0 where
  pub network : IsSound e.network
  pub laid : IsLaidFor e.network (flow_of e)
  pub engine : IsEngine actors e.engine

-- no more comes of any source than is known
abbrev pub IsAllKnown : Engine → Type 0
IsAllKnown e = (source : ℕ) → more_from (slice_get (flow_of e).ahead.items source) ≡ None

-- a flow is at work on a replay that was read. History is what was shown, begun is what the counter of steps said when nothing was
-- fed, and steps is what it says now
pub record RunsFlow (r : Replay) (pages : Option Pages) (flow : Flow Actor) (history : List Event) (begun steps : ℕ) : Type 0 where
  pub read : IsReadReplay r
  pub counted : steps ≡ begun + taken_in_all actors flow
  pub plans : Plans r flow history
  pub answers : Tells pages → KeepsAnswers r (items_in flow pages) flow history

-- an engine is, where no more comes than is known
pub record IsRun (r : Replay) (pages : Option Pages) (engine : Engine) (history : List Event) (begun steps : ℕ) : Type 0 where
  pub network : engine.network ≡ r.network
  pub sound : IsSoundEngine engine
  pub together : Together (flow_of engine).queues pages
  pub at : RunsFlow r pages (flow_of engine) history begun steps

-- and where these tails come behind what is known
pub record IsRunOn (r : Replay) (tails : Tails) (pages : Option Pages) (engine : Engine) (history : List Event) (begun steps : ℕ) : Type 0 where
  pub network : engine.network ≡ r.network
  pub sound : IsSoundEngine engine
  pub fits : Fits actors tails (flow_of engine)
  pub together : Together (flow_of engine).queues pages
  pub at : RunsFlow r pages (with_tails tails (flow_of engine)) history begun steps

-- what an engine is made of: a sound network within its limits, for each source a stream of no more than a million tuples that fits it,
-- and two frames at least
pub record AreReplayParts (n : Network) (sources : List (List Tuple)) (most : ℕ) : Type 0 where
  pub sound : IsSound n
  pub limits : KeepsDropLimits n
  pub lists : length sources ≡ length n.sources
  pub streams : AllByRecursion IsStream sources
  pub tuples : AllByRecursion (AllByRecursion IsSoundTuple) sources
  pub few : AllByRecursion (λ xs. length xs ≤ 1000000) sources
  pub fit : SourcesFit n sources
  pub frames : 2 ≤ most

-- an engine that has released nothing yet of a replay of which all is known, whose queues have so many frames: its replay alone is ready
pub record IsNewEngine (r : Replay) (most : ℕ) (e : Engine) : Type 0 where
  pub sound : IsSoundEngine e
  pub run : (pages : Option Pages) (steps : ℕ) → IsRun r pages e [] steps steps
  pub known : IsAllKnown e
  pub ready : ready_of e ≡ 0 ∷ []
  pub frames : frames (flow_of e).queues ≡ most

-- an engine runs as long as an actor is ready; else it is done where all actors are finished, and where one isn't it waits for more of a
-- source. It has failed where a step did
pub record IsState (e : Engine) (s : State) : Type 0 where
  pub runs : s ≡ Running → (0 < length (ready_of e)) × (has_failed e ≡ false)
  pub waits : s ≡ Waiting → IsHeldUp e.engine
  pub done : s ≡ Done → AllDone (flow_of e) × (has_failed e ≡ false)
  pub when_done : has_failed e ≡ false → AllDone (flow_of e) → s ≡ Done
  pub failed : s ≡ Failed → has_failed e ≡ true
  pub when_failed : has_failed e ≡ true → s ≡ Failed

-- an engine has ended where it is done or has failed, and only there
pub record SaysWhetherEnded (e : Engine) (ended : Bool) : Type 0 where
  pub runs : ended ≡ false → (0 < length (ready_of e)) × (has_failed e ≡ false)
  pub done : has_failed e ≡ false → ended ≡ true → AllDone (flow_of e)
  pub when_done : AllDone (flow_of e) → ended ≡ true
  pub when_failed : has_failed e ≡ true → ended ≡ true

-- what a run has shown so far is a beginning of the answers, the records and the plans, and no more was fed than they take
pub record ShownSoFar (r : Replay) (history : List Event) (begun steps : ℕ) : Type 0 where
  pub lines : (output : ℕ) → output < length r.network.wires.outputs → IsPrefixOf (lines_of output history) (answer_of r output)
  pub drops : (w : ℕ) (p : DropPoint) → slice_get (points_of r.network) w ≡ Some p → IsPrefixOf (drops_of w history) (decisions_of r w p)
  pub plans : IsPrefixOf (plans_of history) (plans_shown r)
  pub work : steps ≤ begun + work_of r

-- what a run that failed over a disk that is known then has shown, and why it may have failed: of all that a changed disk brings about
-- only by a garbled page, and by none over an honest disk
pub record Stopped (honest : Bool) (r : Replay) (history : List Event) (begun steps : ℕ) (e : RunErr) : Type 0 where
  pub so_far : ShownSoFar r history begun steps
  pub named : NotChanged honest e
  pub turns : e ≡ TooMuch → 2 ^ 62 ≤ turns_of r

-- the tuples that a box was fed at a port, in order
abbrev pub tuples_fed : Engine → ℕ → ℕ → List Tuple
tuples_fed engine at port = tuples_in (fed_on (flow_of engine) at port)

-- nothing is to come any more: no tuple at an output, no batch of a drop, no mark or tuple on an arc and no plan; and each operator was fed,
-- and has lost, as many tuples as it will have been fed and have lost at the end
pub record NothingLeft (flow : Flow Actor) : Type 0 where
  pub coming : NothingComes actors flow
  pub plans : plans_left flow ≡ []

-- how many tuples a box was fed, and how many of them it has neither given nor holds, where it is a BSort
abbrev pub fed_at : Engine → ℕ → ℕ
fed_at engine at = taken_at actors (slice_get (flow_of engine).seats.items at)

abbrev pub late_in : Option (Seat Actor) → ℕ
late_in None = 0
late_in (Some seat) = late_by_actor seat.op (actors.taken seat.op)

abbrev pub late_at_seat : Engine → ℕ → ℕ
late_at_seat engine at = late_in (slice_get (flow_of engine).seats.items at)

-- what a run that is done has shown, fed and lost: at each port a box was fed the kept tuples of the arc there
pub record ShownAll (r : Replay) (engine : Engine) (history : List Event) (begun steps : ℕ) : Type 0 where
  pub lines : (output : ℕ) → output < length r.network.wires.outputs → lines_of output history ≡ answer_of r output
  pub drops : (w : ℕ) (p : DropPoint) → slice_get (points_of r.network) w ≡ Some p → drops_of w history ≡ decisions_of r w p
  pub plans : plans_of history ≡ plans_shown r
  pub took : (at port arc : ℕ) → at < length r.network.boxes → slice_get (input_arcs_of r.network.wires at) port ≡ Some arc
      → tuples_fed engine at port ≡ kept_of r arc
  pub fed : (at : ℕ) → at < length r.network.boxes → fed_at engine at ≡ fed_of r at
  pub late : (at : ℕ) → at < length r.network.boxes → late_at_seat engine at ≡ late_of r.network r.sources at
  pub work : steps ≡ begun + work_of r
