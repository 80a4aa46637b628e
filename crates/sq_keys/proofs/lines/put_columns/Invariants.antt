use Rattle.std.proofs.Common.{◌≡◌, ◌++◌, drop}
use Rattle.std.specs.List.{flat_map}
use Rattle.sq_keys.specs.Lines.{column_text}
use Rattle.sq_keys.proofs.lines.put_columns.Given as goal

abbrev pub invariant-loop-column : goal.invariant-loop-column
invariant-loop-column l = l.text.items ++ flat_map (column_text l.names) (drop l.column-index l.columns) ≡ l.fn.text.items ++ flat_map (column_text l.names) l.columns
