use Rattle.std.proofs.Common.{subst, map}
use Rattle.sq_plan.specs.Plans.{Setting}
use Rattle.sq_plan.specs.PlanRows.{level_for}
use Rattle.sq_road.specs.Levels.{AgreesWith}
use Rattle.sq_plan.specs.Arrivals.{arrivals}
use Rattle.sq_model.proofs.known.levels_in.Goals as goal

pub returns-clause-levels : goal.returns-clause-levels
returns-clause-levels c = λ seed. record {
  epoch = c.in_ok-levels.ensures.epoch;
  agrees = subst (λ (s : Setting). AgreesWith c.in_ok-levels.levels (level_for s (arrivals c.args.n.now.epoch (map (λ t. t.items) c.args.sources.now)))) c.in_ok-planner.ensures c.in_ok-levels.ensures.agrees;
}
