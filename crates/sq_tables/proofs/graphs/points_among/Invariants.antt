use Rattle.std.proofs.Common.{◌≡◌, drop}
use Rattle.toml.specs.View.{items_view}
use Rattle.sq_tables.specs.Shapes.{point_in}
use Rattle.sq_tables.specs.Documents.{each_item}
use Rattle.sq_tables.proofs.DocumentLemmas.{with_front}
use Rattle.sq_tables.proofs.graphs.points_among.Given as goal

abbrev pub invariant-loop-item : goal.invariant-loop-item
invariant-loop-item l = with_front l.found.items (each_item point_in (items_view (drop l.item-index l.items.items))) ≡ each_item point_in (items_view l.items.items)
