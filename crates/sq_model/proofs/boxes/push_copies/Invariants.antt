use Rattle.std.proofs.Common.{◌≡◌, ◌++◌, drop}
use Rattle.sq_model.proofs.boxes.push_copies.Given as goal

abbrev pub invariant-loop-t : goal.invariant-loop-t
invariant-loop-t l = l.fn.out.items ++ l.tuples ≡ l.out.items ++ drop l.t-index l.tuples
