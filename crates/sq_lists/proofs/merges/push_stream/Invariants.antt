use Rattle.std.proofs.Common.{◌≡◌, ◌++◌, map, drop}
use Rattle.sq_lists.proofs.merges.push_stream.Given as goal

abbrev pub invariant-loop-x : goal.invariant-loop-x
invariant-loop-x l =
    l.fn.pairs.items ++ map (λ x. (l.port, x)) l.tuples ≡ l.pairs.items ++ map (λ x. (l.port, x)) (drop l.x-index l.tuples)
