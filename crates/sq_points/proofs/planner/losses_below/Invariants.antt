use Rattle.std.proofs.Common.{◌≡◌, ℕ, ◌<◌, length, get_or}
use Rattle.std.specs.List.{sum_by}
use Rattle.sq_points.specs.Losses.{loss_in}
use Rattle.sq_points.proofs.planner.losses_below.Given as goal

abbrev pub invariant-loop-step : goal.invariant-loop-step
invariant-loop-step l = record {
  long : length l.losses ≡ 20;
  so_far : (k : ℕ) → k < l.step → get_or l.losses k 0 ≡ sum_by (loss_in l.table k) l.outputs;
}
