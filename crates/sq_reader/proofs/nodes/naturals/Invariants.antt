use Rattle.std.proofs.Common.{◌≡◌, ◌++◌, drop, map}
use Rattle.sq_reader.specs.Columns.{nat_of}
use Rattle.sq_reader.proofs.nodes.naturals.Given as goal

abbrev pub invariant-loop-number : goal.invariant-loop-number
invariant-loop-number l = l.found.items ++ map nat_of (drop l.number-index l.numbers) ≡ map nat_of l.numbers
