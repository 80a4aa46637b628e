use Rattle.std.proofs.Common.{◌≡◌, take}
use Rattle.sq_join.specs.Indexes.{IsIndex, IsOfSameKeys}
use Rattle.sq_join.proofs.index.Index.build.Given as goal

abbrev pub invariant-loop-i : goal.invariant-loop-i
invariant-loop-i l = record {
  index : IsIndex (take l.i l.held.items) l.self;
  same : IsOfSameKeys l.fn.self l.self;
  first : l.self.first ≡ 0;
}
