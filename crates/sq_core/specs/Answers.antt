-- What is pending of the answers of a replay: what was shown, and then what is left, is what the replay says.
use Rattle.std.specs.Prelude.{◌≡◌, ℕ, ◌+◌, ◌<◌, ◌≤◌, ◌++◌, List, length, Some, slice_get}
use Rattle.sq_item.specs.declared.Item.{Item}
use Rattle.sq_oper.specs.declared.outs.Event.{Event}
use Rattle.sq_place.specs.declared.DropPoint.{DropPoint}
use Rattle.sq_points.specs.Points.{points_of, setting_of}
use Rattle.sq_model.specs.FullCounts.{late_of}
use Rattle.sq_model.specs.Shedding.{Replay, counts_in, batch_level, answer_of}
use Rattle.sq_model.specs.KeptTuples.{fed_of, work_of, turns_of}
use Rattle.sq_model.specs.PlanLines.{plans_shown}
use Rattle.sq_actor.specs.declared.actor.Actor.{Actor}
use Rattle.sq_flow.specs.declared.flow.Flow.{Flow}
use Rattle.sq_flow.specs.Events.{lines_of, drops_of}
use Rattle.sq_flow.specs.Wiring.{arcs_read}
use Rattle.sq_flow.specs.Flows.{HoldsItems, lines_left, decisions_left, fed_on, left_on, fed_at_last, lost_at_last, work_at_last, turns_at_last}
use Rattle.sq_flow.specs.Plans.{IsPlanned, plans_of, plans_left}
use Rattle.sq_below.specs.Actors as below
use Rattle.sq_below.specs.Actors.{stream_of}
use Rattle.sq_start.specs.Numbers.{ops_of, actor_at, reads_of}
use Rattle.sq_start.specs.Nets.{decisions_of}
use Rattle.sq_core.specs.Meanings.{actors}

-- over every disk: the levels of the closed epochs are those of the replay, and the plans that were shown, and then those that
-- are left, are its plans
pub record Plans (r : Replay) (flow : Flow Actor) (history : List Event) : Type 0 where
  pub setting : flow.planner ≡ setting_of r.network r.entries
  pub planned : IsPlanned (counts_in r) flow
  pub shown : plans_of history ++ plans_left flow ≡ plans_shown r

-- an arc leads to a port of an operator, and what was fed there, and then what is still to be taken from the arc, what stands on it and
-- then what will still come, is what the replay says is given there in all
pub record ArcLeft (r : Replay) (items : ℕ → List Item) (flow : Flow Actor) (actor port : ℕ) (giver : below.Actor × ℕ) : Type 0 where
  pub arc : ℕ
  pub there : slice_get (arcs_read flow.wires actor) port ≡ Some arc
  pub whole : fed_on flow actor port ++ left_on actors (batch_level r) items flow arc ≡ stream_of r giver

-- the lines that were shown at an output, and then those that are left, are its answer; the decisions of a drop that were shown,
-- and then those that are left, are its record with the levels; and what each box will have been fed and have lost at the end,
-- and what all operators will have taken, is what the replay says; and so is what was fed at each port of an operator, and then what is
-- left of the arc there
pub record KeepsAnswers (r : Replay) (items : ℕ → List Item) (flow : Flow Actor) (history : List Event) : Type 0 where
  pub holds : HoldsItems actors (batch_level r) items flow
  pub lines : (output : ℕ) → output < length r.network.wires.outputs
      → lines_of output history ++ lines_left actors (batch_level r) items flow output ≡ answer_of r output
  pub drops : (w : ℕ) (p : DropPoint) → slice_get (points_of r.network) w ≡ Some p
      → drops_of w history ++ decisions_left actors (batch_level r) items flow (flow.wires.sheds + w) ≡ decisions_of r w p
  pub fed : (at : ℕ) → at < length r.network.boxes → fed_at_last actors (batch_level r) items flow at ≡ fed_of r at
  pub late : (at : ℕ) → at < length r.network.boxes → lost_at_last actors (batch_level r) items flow at ≡ late_of r.network r.sources at
  pub work : work_at_last actors (batch_level r) items flow ≡ work_of r
  pub turns : turns_at_last actors (batch_level r) items flow ≤ turns_of r
  pub arcs : (actor port : ℕ) (giver : below.Actor × ℕ) → actor < ops_of r.network → slice_get (reads_of r.network (actor_at r.network actor)) port ≡ Some giver
      → ArcLeft r items flow actor port giver
