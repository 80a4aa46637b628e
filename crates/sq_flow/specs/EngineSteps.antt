-- What a step of an engine promises.
use Rattle.std.specs.Prelude.{◌≡◌, true, length}
use Rattle.sq_sched.specs.declared.policy.Pick.{Pick}
use Rattle.sq_oper.specs.declared.operator.Operator.{Ghosts}
use Rattle.sq_flow.specs.declared.engine.Engine.{Engine}
use Rattle.sq_flow.specs.declared.steps.Progress.{Progress}
use Rattle.sq_flow.specs.Engines.{IsEngine, listed_after, seat_number}
use Rattle.sq_flow.specs.Readiness.{Took}
use Rattle.sq_flow.specs.Stepping.{Stage, TrainOk}

-- a train of a ready actor that ended Ok: it feeds something or finishes, and who is ready behind it is listed
pub record EngineOk {O : Type 0} (m : Ghosts O) (pick : Pick) (before after : Stage O) (from to : Engine O) (p : Progress) : Type 0 where
  pub train : TrainOk m (seat_number (length from.flow.seats.items) pick.actor) pick.train before after p
  pub engine : IsEngine m to
  pub order : to.ready.list ≡ listed_after to.flow from.ready.list pick.actor
  pub works : p.fed ≡ 0 → p.finished ≡ true
  pub took : Took (seat_number (length from.flow.seats.items) pick.actor) p.fed p.finished from.flow to.flow
