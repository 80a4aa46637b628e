use Rattle.std.proofs.Common.{◌≡◌, ◌++◌, take}
use Rattle.sq_lists.proofs.sides.push_copies.Given as goal

abbrev pub invariant-loop-v : goal.invariant-loop-v
invariant-loop-v l = l.copies.items ≡ l.fn.copies.items ++ take l.v-index l.values
