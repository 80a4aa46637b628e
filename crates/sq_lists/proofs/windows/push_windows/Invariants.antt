use Rattle.std.proofs.Common.{◌≡◌, ◌++◌}
use Rattle.sq_lists.specs.WindowParts.{numbered_results}
use Rattle.sq_lists.proofs.windows.push_windows.Given as goal

abbrev pub invariant-loop-k : goal.invariant-loop-k
invariant-loop-k g l = l.out.items ++ numbered_results (g.F.Fold.table l.fold) l.by l.window l.rest l.k l.to ≡ l.initial.out.items ++ numbered_results (g.F.Fold.table l.fold) l.by l.window l.rest l.from l.to
