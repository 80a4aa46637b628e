-- What an engine is told of its sources while it runs.
use Rattle.std.specs.Prelude.{◌≡◌, ℕ, ◌<◌, false, List, [], length, set, Option}
use Rattle.sq_value.specs.declared.Tuple.{Tuple}
use Rattle.sq_oper.specs.declared.operator.Operator.{Ghosts}
use Rattle.sq_flow.specs.declared.engine.Engine.{Engine}
use Rattle.sq_flow.specs.Flows.{to_release}
use Rattle.sq_flow.specs.Sources.{is_clear}
use Rattle.sq_flow.specs.Tails.{Tails, Fits, with_known, no_tails, with_tails}
use Rattle.sq_flow.specs.Engines.{IsEngine}

-- no actor is ready, and the replay waits for more of a source
pub record IsHeldUp {O : Type 0} (e : Engine O) : Type 0 where
  pub none_ready : e.ready.list ≡ []
  pub held : is_clear e.flow.sources.items e.flow.ahead.items ≡ false
  pub runs : e.failed ≡ false
  pub open_still : e.flow.over ≡ false

-- where no actor is ready, these tuples may be made known of a source of which nothing is: they may come
pub record MayKnow {O : Type 0} (m : Ghosts O) (e : Engine O) (source : ℕ) (more : List Tuple) : Type 0 where
  pub engine : IsEngine m e
  pub there : source < length e.flow.sources.items
  pub none_ready : e.ready.list ≡ []
  pub open_still : e.flow.over ≡ false
  pub bare : to_release e.flow source ≡ []
  pub may : Fits m (with_known source more no_tails) e.flow

-- they are known: whatever comes behind them, the flow with it is what it was with them and then with that
pub record Knows {O : Type 0} (m : Ghosts O) (source : ℕ) (more : List Tuple) (bound : Option ℕ) (e e' : Engine O) : Type 0 where
  pub engine : IsEngine m e'
  pub tails : (tails : Tails) → with_tails (with_known source more tails) e.flow ≡ with_tails tails e'.flow
  pub ahead : e'.flow.ahead.items ≡ set e.flow.ahead.items source bound
