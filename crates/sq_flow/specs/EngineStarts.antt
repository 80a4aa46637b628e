-- An engine to which nothing was fed.
use Rattle.std.specs.Prelude.{◌≡◌, ℕ, List, [], Option, Vec}
use Rattle.std.specs.declared.alloc.Global.{Global}
use Rattle.sq_road.specs.Levels.{LevelTable}
use Rattle.sq_plan.specs.Plans.{Setting}
use Rattle.sq_oper.specs.declared.operator.Operator.{Ghosts}
use Rattle.sq_replay.specs.RecordedTuples.{Recorded}
use Rattle.sq_flow.specs.declared.wires.Wires.{Wires}
use Rattle.sq_flow.specs.declared.seats.Seat.{Seat}
use Rattle.sq_flow.specs.declared.engine.Engine.{Engine}
use Rattle.sq_flow.specs.Starts.{BeginsFlow}
use Rattle.sq_flow.specs.Engines.{IsEngine, newly_ready}

-- its flow begins with these parts, and the ready actors are listed in ascending number
pub record BeginsEngine {O : Type 0} (m : Ghosts O) (wires : Wires) (seats : Vec (Seat O) Global) (sources : Vec Recorded Global)
    (ahead : List (Option ℕ)) (planner : Setting) (levels : LevelTable) (most : ℕ) (e : Engine O) : Type 0 where
  pub begins : BeginsFlow m wires seats sources ahead planner levels most e.flow
  pub engine : IsEngine m e
  pub order : e.ready.list ≡ newly_ready e.flow []
