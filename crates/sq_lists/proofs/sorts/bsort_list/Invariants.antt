use Rattle.std.proofs.Common.{◌≡◌, ◌≤◌, ◌++◌, drop}
use Rattle.sq_lists.specs.Sorting.{retimed}
use Rattle.sq_lists.specs.Sorters.{new_sorter, sort_run}
use Rattle.sq_lists.proofs.sorts.bsort_list.Given as goal

abbrev pub invariant-loop-x : goal.invariant-loop-x
invariant-loop-x l = record {
  given : sort_run (new_sorter l.slack) (retimed l.by l.tuples) ≡ l.out.items ++ sort_run l.sorter (retimed l.by (drop l.x-index l.tuples));
  number : l.sorter.number ≤ l.x-index;
}
