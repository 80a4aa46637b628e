use Rattle.std.proofs.Common.{◌≡◌, ◌++◌, drop}
use Rattle.sq_reader.proofs.functions.push_names.Given as goal

abbrev pub invariant-loop-name : goal.invariant-loop-name
invariant-loop-name l = l.names.items ++ drop l.name-index l.more ≡ l.initial.names.items ++ l.more
