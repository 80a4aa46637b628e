use Rattle.std.proofs.Common.{◌≡◌, ◌++◌, drop, map}
use Rattle.sq_keys.specs.Keys.{column_for}
use Rattle.sq_keys.proofs.keys.columns_for.Given as goal

abbrev pub invariant-loop-source : goal.invariant-loop-source
invariant-loop-source l = l.by.items ++ map (column_for l.pairs) (drop l.source-index l.sources) ≡ map (column_for l.pairs) l.sources
