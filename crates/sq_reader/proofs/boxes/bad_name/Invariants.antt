use Rattle.std.proofs.Common.{◌≡◌, ◌++◌, drop, take}
use Rattle.sq_reader.specs.Columns.{bad_name_from}
use Rattle.sq_reader.proofs.boxes.bad_name.Given as goal

abbrev pub invariant-loop-item : goal.invariant-loop-item
invariant-loop-item l = bad_name_from (l.before ++ take l.item l.names) l.item (drop l.item l.names) ≡ bad_name_from l.before 0 l.names
