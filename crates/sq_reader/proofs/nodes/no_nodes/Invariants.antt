use Rattle.std.proofs.Common.{◌≡◌}
use Rattle.sq_reader.specs.Columns as columns
use Rattle.sq_reader.proofs.nodes.no_nodes.Given as goal

abbrev pub invariant-loop-at : goal.invariant-loop-at
invariant-loop-at l = l.nodes.items ≡ columns.no_nodes l._at
