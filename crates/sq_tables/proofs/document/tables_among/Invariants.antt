use Rattle.std.proofs.Common.{◌≡◌, drop, map}
use Rattle.toml.specs.Data.{as_table}
use Rattle.toml.specs.View.{items_view, table_view}
use Rattle.sq_tables.specs.Documents.{each_item}
use Rattle.sq_tables.proofs.DocumentLemmas.{with_front}
use Rattle.sq_tables.proofs.document.tables_among.Given as goal

abbrev pub invariant-loop-item : goal.invariant-loop-item
invariant-loop-item l = with_front (map (λ t. table_view t.now) l.found.items) (each_item as_table (items_view (drop l.item-index l.items.items))) ≡ each_item as_table (items_view l.items.items)
