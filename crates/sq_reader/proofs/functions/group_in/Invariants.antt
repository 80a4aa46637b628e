use Rattle.std.proofs.Common.{◌≡◌, [], drop, take}
use Rattle.sq_tables.proofs.ShapedLemmas.{joined}
use Rattle.sq_reader.specs.Functions.{group_from}
use Rattle.sq_reader.proofs.functions.group_in.Given as goal

abbrev pub invariant-loop-item : goal.invariant-loop-item
invariant-loop-item l = joined l.places.items (group_from l.number l.item l.scope (take l.item l.group) (drop l.item l.group)) ≡ group_from l.number 0 l.scope [] l.group
