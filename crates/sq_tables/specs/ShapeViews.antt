-- The top of a file as the program holds it.
use Rattle.std.specs.Prelude.{map}
use Rattle.toml.specs.View.{table_view}
use Rattle.sq_tables.specs.Shapes.{Tables}
use Rattle.sq_tables.specs.declared.shape.TopTables.{TopTables}

abbrev pub tables_seen : TopTables → Tables
tables_seen t = record {
  epoch = t.epoch;
  batch = t.batch;
  sources = map (λ m. table_view m.now) t.sources.items;
  boxes = map (λ m. table_view m.now) t.boxes.items;
  outputs = map (λ m. table_view m.now) t.outputs.items;
}
