use Rattle.std.proofs.Common.{◌≡◌, ◌++◌, length}
use Rattle.sq_lists.specs.Sorters.{sort_flush}
use Rattle.sq_lists.proofs.sorts.take_all.Given as goal

abbrev pub invariant-loop-sorter : goal.invariant-loop-sorter
invariant-loop-sorter l = l.fn.out.items ++ sort_flush l.fn.sorter ≡ l.out.items ++ sort_flush l.sorter

abbrev pub decreases-loop-sorter : goal.decreases-loop-sorter
decreases-loop-sorter l = length l.sorter.held
