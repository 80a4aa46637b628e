use Rattle.std.proofs.Common.{◌≡◌, [], length, drop}
use Rattle.std.specs.List.{zip}
use Rattle.sq_reader.specs.Sources.{columns_from}
use Rattle.sq_tables.proofs.ShapedLemmas.{joined}
use Rattle.sq_reader.proofs.sources.schema_in.Given as goal

abbrev pub invariant-loop-item : goal.invariant-loop-item
invariant-loop-item l = record {
  even : length l.names.items ≡ length l.kinds.items;
  so_far : joined (zip l.names.items l.kinds.items) (columns_from l.number l.item l.names.items (drop l.item l.fields)) ≡ columns_from l.number 0 [] l.fields;
}
