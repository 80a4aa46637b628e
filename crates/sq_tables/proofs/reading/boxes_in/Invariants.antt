use Rattle.std.proofs.Common.{◌≡◌, drop, map}
use Rattle.toml.specs.View.{table_view}
use Rattle.sq_net.specs.declared.Part.TheVariants as part
use Rattle.sq_tables.specs.Tables.{shaped_from}
use Rattle.sq_tables.specs.Shapes.{box_in}
use Rattle.sq_tables.proofs.ShapedLemmas.{joined}
use Rattle.sq_tables.proofs.reading.boxes_in.Given as goal

abbrev pub invariant-loop-number : goal.invariant-loop-number
invariant-loop-number l =
    joined l.found.items (shaped_from part.Box (box_in l.version) l.number (map (λ t. table_view t.now) (drop l.number l.tables)))
    ≡ shaped_from part.Box (box_in l.version) 0 (map (λ t. table_view t.now) l.tables)
