use Rattle.std.proofs.Common.{◌≡◌, ◌++◌, drop}
use Rattle.sq_reader.specs.Columns as columns
use Rattle.sq_reader.proofs.functions.give_names.Given as goal

abbrev pub invariant-loop-column : goal.invariant-loop-column
invariant-loop-column l = l.names.items ++ columns.give_names (drop l.column-index l.give) ≡ columns.give_names l.give
