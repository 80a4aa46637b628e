use Rattle.std.proofs.Common.{◌≡◌, ◌++◌, ◌^◌, ◌<◌, ◌≤◌, drop}
use Rattle.std.specs.List.{AllByRecursion}
use Rattle.sq_aggfn.specs.Windows.{started}
use Rattle.sq_lists.specs.Windows.{aggregate_of}
use Rattle.sq_lists.specs.WindowParts.{TimesNotFalling}
use Rattle.sq_lists.proofs.WindowLemmas.{left_results}
use Rattle.sq_lists.proofs.windows.aggregate.Given as goal

abbrev pub invariant-loop-i : goal.invariant-loop-i
invariant-loop-i g l = record {
  results : l.out.items ++ left_results (g.F.Fold.table l.fold) l.group l.window (drop l.i l.tuples) l.next ≡ aggregate_of (g.F.Fold.table l.fold) l.group l.window l.tuples;
  rises : TimesNotFalling 0 (drop l.i l.tuples);
  begun : AllByRecursion (λ x. l.next ≤ started l.window x.time) (drop l.i l.tuples);
  ticks : AllByRecursion (λ x. x.time < 2 ^ 40) (drop l.i l.tuples);
}
