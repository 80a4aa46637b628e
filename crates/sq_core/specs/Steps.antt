-- What a step of the engine of a network promises, beside what it is over any operators.
use Rattle.std.specs.Prelude.{◌≡◌, ℕ, true, List, ◌++◌, length}
use Rattle.std.specs.List.{AllByRecursion}
use Rattle.sq_sched.specs.declared.policy.Pick.{Pick}
use Rattle.sq_points.specs.Points.{drops_in}
use Rattle.sq_model.specs.Shedding.{Replay}
use Rattle.sq_oper.specs.declared.outs.Event.{Event}
use Rattle.sq_pool.specs.Trust.{Tells, known}
use Rattle.sq_actor.specs.declared.actor.Actor.{Actor}
use Rattle.sq_flow.specs.declared.errors.RunErr.{RunErr}
use Rattle.sq_flow.specs.declared.steps.Progress.{Progress}
use Rattle.sq_flow.specs.Events.{IsEventIn}
use Rattle.sq_flow.specs.EngineSteps.{EngineOk}
use Rattle.sq_flow.specs.Stepping.{Stage, StepErr}
use Rattle.sq_flow.specs.Tails.{Tails}
use Rattle.sq_core.specs.declared.engine.Engine.{Engine}
use Rattle.sq_core.specs.Meanings.{actors}
use Rattle.sq_core.specs.Runs.{IsRun, IsRunOn, IsSoundEngine, Stopped}

-- a step that ended Ok: what was shown, and then what is pending, stays the same, whatever comes behind what is known; and each event is one
-- of the network
pub record RunsOn (pick : Pick) (before after : Stage Actor) (engine engine' : Engine) (p : Progress) : Type 0 where
  pub step : EngineOk actors pick before after engine.engine engine'.engine p
  pub sound : IsSoundEngine engine'
  pub run : (r : Replay) (history : List Event) (begun : ℕ)
      → IsRun r (known before.log) engine (history ++ before.events) begun before.steps → IsRun r (known after.log) engine' (history ++ after.events) begun after.steps
  pub run_on : (r : Replay) (tails : Tails) (history : List Event) (begun : ℕ)
      → IsRunOn r tails (known before.log) engine (history ++ before.events) begun before.steps → IsRunOn r tails (known after.log) engine' (history ++ after.events) begun after.steps
  pub shows : AllByRecursion (IsEventIn (length engine.network.outputs) (drops_in engine.network)) before.events
      → AllByRecursion (IsEventIn (length engine.network.outputs) (drops_in engine.network)) after.events

-- a step that failed: so has the engine, and what it has shown begins the answers
pub record RunFails (before after : Stage Actor) (engine engine' : Engine) (e : RunErr) : Type 0 where
  pub step : StepErr actors before after e
  pub failed : engine'.engine.failed ≡ true
  pub stopped : Tells (known after.log) → (r : Replay) (history : List Event) (begun : ℕ)
      → IsRun r (known before.log) engine (history ++ before.events) begun before.steps → Stopped before.log.honest r (history ++ after.events) begun after.steps e
  pub stopped_on : Tells (known after.log) → (r : Replay) (tails : Tails) (history : List Event) (begun : ℕ)
      → IsRunOn r tails (known before.log) engine (history ++ before.events) begun before.steps → Stopped before.log.honest r (history ++ after.events) begun after.steps e
