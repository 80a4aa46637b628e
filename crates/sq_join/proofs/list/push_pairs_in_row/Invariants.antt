use Rattle.std.proofs.Common.{◌≡◌, ◌+◌, ◌<◌, ◌≤◌, ◌++◌, drop, length}
use Rattle.std.specs.List.{AllByRecursion}
use Rattle.sq_lists.specs.Sides.{pairs_with}
use Rattle.sq_join.proofs.IndexLemmas.{standing_at}
use Rattle.sq_join.proofs.list.push_pairs_in_row.Given as goal

abbrev pub invariant-loop-i : goal.invariant-loop-i
invariant-loop-i l = record {
  pairs : l.out.items ++ pairs_with l.on.tree l.side l.x (standing_at l.first l.others.items (drop l.i l.positions.items))
      ≡ l.fn.out.items ++ pairs_with l.on.tree l.side l.x l.others.items;
  within : AllByRecursion (λ p. (l.first ≤ p) × (p < l.first + length l.others.items)) (drop l.i l.positions.items);
}
