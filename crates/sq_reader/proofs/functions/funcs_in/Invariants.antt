use Rattle.std.proofs.Common.{◌≡◌, drop}
use Rattle.sq_tables.proofs.ShapedLemmas.{joined}
use Rattle.sq_reader.specs.Functions.{funcs_from}
use Rattle.sq_reader.proofs.functions.funcs_in.Given as goal

abbrev pub invariant-loop-item : goal.invariant-loop-item
invariant-loop-item l = joined l.funcs.items (funcs_from l.number l.item l.scope (drop l.item l.give)) ≡ funcs_from l.number 0 l.scope l.give
