use Rattle.std.proofs.Common.{◌≡◌, ◌++◌, ◌-◌, ◌^◌, length}
use Rattle.sq_aggfn.specs.KeyedStates.{AllMade}
use Rattle.sq_lists.specs.WindowParts.{told_results}
use Rattle.sq_lists.proofs.windows.push_results.Given as goal

abbrev pub invariant-loop-group : goal.invariant-loop-group
invariant-loop-group g l = record {
  results : l.out.items ++ told_results (g.F.Fold.told l.fold) l.start l.held.entries ≡ l.initial.out.items ++ told_results (g.F.Fold.told l.fold) l.start l.initial.held.entries;
  made : AllMade (g.F.Fold.made l.fold) (g.F.Fold.number l.fold) (λ k. 2 ^ 62 - 1) l.held.entries;
}

abbrev pub decreases-loop-group : goal.decreases-loop-group
decreases-loop-group g l = length l.held.entries
