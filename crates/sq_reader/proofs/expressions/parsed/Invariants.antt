use Rattle.std.proofs.Common.{◌≡◌, drop}
use Rattle.sq_reader.specs.Expressions.{parsed_from}
use Rattle.sq_tables.proofs.ShapedLemmas.{joined}
use Rattle.sq_reader.proofs.expressions.parsed.Given as goal

abbrev pub invariant-loop-item : goal.invariant-loop-item
invariant-loop-item l = joined l.asts.items (parsed_from l.number l.item (drop l.item l.texts)) ≡ parsed_from l.number 0 l.texts
