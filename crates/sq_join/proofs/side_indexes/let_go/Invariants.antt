use Rattle.std.proofs.Common.{◌≡◌, length}
use Rattle.sq_lists.specs.Sides.{recent}
use Rattle.sq_join.specs.Indexes.{IsIndex, IsOfSameKeys}
use Rattle.sq_join.proofs.side_indexes.let_go.Given as goal

abbrev pub invariant-loop-held : goal.invariant-loop-held
invariant-loop-held l = record {
  held : recent l.size l.now l.held.items ≡ recent l.size l.now l.fn.held.items;
  index : IsIndex l.held.items l.index;
  same : IsOfSameKeys l.fn.index l.index;
}

abbrev pub decreases-loop-held : goal.decreases-loop-held
decreases-loop-held l = length l.held.items
