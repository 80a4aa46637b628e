use Rattle.std.proofs.Common.{◌≡◌, ◌++◌, drop}
use Rattle.sq_lists.specs.Sides.{pairs_with}
use Rattle.sq_pairs.proofs.pairs.push_pairs.Given as goal

abbrev pub invariant-loop-i : goal.invariant-loop-i
invariant-loop-i l =
    l.out.items ++ pairs_with l.on.tree l.side l.x (drop l.i l.others.items) ≡ l.fn.out.items ++ pairs_with l.on.tree l.side l.x l.others.items
