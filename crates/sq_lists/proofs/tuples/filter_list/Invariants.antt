use Rattle.std.proofs.Common.{◌≡◌, ◌++◌, map, drop}
use Rattle.sq_lists.specs.Boxes.{filter_list_of}
use Rattle.sq_lists.proofs.tuples.filter_list.Given as goal

abbrev pub invariant-loop-x : goal.invariant-loop-x
invariant-loop-x l =
    filter_list_of (map (λ e. e.tree) l.preds) l.port l.tuples ≡ l.kept.items ++ filter_list_of (map (λ e. e.tree) l.preds) l.port (drop l.x-index l.tuples)
