use Rattle.std.proofs.Common.{◌≡◌, drop}
use Rattle.sq_reader.specs.Expressions.{may_be_set, typed_from}
use Rattle.sq_tables.proofs.ShapedLemmas.{joined}
use Rattle.sq_reader.proofs.boxes.values.Given as goal

abbrev pub invariant-loop-item : goal.invariant-loop-item
invariant-loop-item l = joined l.typed.items (typed_from l.number l.item may_be_set l.scope (drop l.item l.asts)) ≡ typed_from l.number 0 may_be_set l.scope l.asts
