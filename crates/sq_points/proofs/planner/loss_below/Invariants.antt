use Rattle.std.proofs.Common.{◌≡◌, ◌≤◌, ◌*◌, take}
use Rattle.std.specs.List.{sum_by}
use Rattle.sq_points.specs.Losses.{loss_in, most_lost}
use Rattle.sq_points.proofs.planner.loss_below.Given as goal

abbrev pub invariant-loop-output : goal.invariant-loop-output
invariant-loop-output l = record {
  sum : l.sum ≡ sum_by (loss_in l.table l.step) (take l.output-index l.outputs);
  low : l.sum ≤ l.output-index * most_lost;
}
