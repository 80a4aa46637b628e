use Rattle.std.proofs.Common.{◌≡◌, ◌+◌, ◌-◌, ◌≤◌, ◌^◌, map}
use Rattle.sq_plan.specs.PlanRows.{level_for}
use Rattle.sq_road.specs.Levels.{AgreesWith}
use Rattle.sq_plan.specs.Arrivals.{arrivals}
use Rattle.sq_model.proofs.epochs.levels_of.Given as goal

abbrev pub invariant-loop-ended : goal.invariant-loop-ended
invariant-loop-ended l = record {
  closed : l.levels.closed ≡ l.ended + 1;
  epoch : l.levels.epoch ≡ l.epoch;
  low : l.ended ≤ 2 ^ 40;
  same : l.planner ≡ l.fn.planner;
  agrees : AgreesWith l.levels (level_for l.fn.planner (arrivals l.epoch (map (λ t. t.items) l.sources)));
}

abbrev pub decreases-loop-ended : goal.decreases-loop-ended
decreases-loop-ended l = 2 ^ 40 - l.ended
