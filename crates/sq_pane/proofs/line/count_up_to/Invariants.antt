use Rattle.std.proofs.Common.{◌<◌, ◌≤◌, length, drop}
use Rattle.std.specs.List.{AllByRecursion}
use Rattle.sq_pane.proofs.line.count_up_to.Given as goal

abbrev pub invariant-loop-count : goal.invariant-loop-count
invariant-loop-count g l = record {
  within : l.count ≤ length l.states.items;
  after : AllByRecursion (λ e. l.pane < e.0) (drop l.count l.states.items);
}

abbrev pub decreases-loop-count : goal.decreases-loop-count
decreases-loop-count g l = l.count
