use Rattle.std.proofs.Common.{◌≡◌, ◌++◌, map, drop}
use Rattle.sq_lists.specs.Boxes.{map_list_of}
use Rattle.sq_lists.proofs.tuples.map_list.Given as goal

abbrev pub invariant-loop-x : goal.invariant-loop-x
invariant-loop-x l =
    map_list_of (map (λ e. e.tree) l.exprs) l.tuples ≡ l.made.items ++ map_list_of (map (λ e. e.tree) l.exprs) (drop l.x-index l.tuples)
