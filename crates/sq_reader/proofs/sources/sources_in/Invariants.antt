use Rattle.std.proofs.Common.{◌≡◌, drop}
use Rattle.sq_reader.specs.Sources.{sources_from}
use Rattle.sq_tables.proofs.ShapedLemmas.{joined}
use Rattle.sq_reader.proofs.sources.sources_in.Given as goal

abbrev pub invariant-loop-number : goal.invariant-loop-number
invariant-loop-number l = joined l.typed.items (sources_from l.number (drop l.number l.sources)) ≡ sources_from 0 l.sources
