use Rattle.std.proofs.Common.{◌≡◌, ◌++◌, length}
use Rattle.sq_words.specs.Lists.{Rising}
use Rattle.sq_lists.specs.Merge.{tuple_earlier}
use Rattle.sq_lists.specs.Pairs.{pairs_from, join_list_of}
use Rattle.sq_lists.specs.Sides.{held_on_sides}
use Rattle.sq_lists.proofs.SideLemmas.{Held, TwoSides}
use Rattle.sq_join.specs.Indexes.{MayIndex}
use Rattle.sq_join.proofs.list.join_by.Given as goal

abbrev pub invariant-loop-side : goal.invariant-loop-side
invariant-loop-side l = record {
  pairs : join_list_of l.size l.on.tree l.left l.right ≡ l.out.items ++ pairs_from l.size l.on.tree (held_on_sides l.sides.left.items l.sides.right.items) l.coming.items;
  rises : Rising tuple_earlier l.coming.items;
  sides : TwoSides l.coming.items;
  left : Held l.sides.left.items l.coming.items;
  right : Held l.sides.right.items l.coming.items;
  indexes : MayIndex l.on.tree l.sides.left.items l.sides.right.items l.indexes;
}

abbrev pub decreases-loop-side : goal.decreases-loop-side
decreases-loop-side l = length l.coming.items
