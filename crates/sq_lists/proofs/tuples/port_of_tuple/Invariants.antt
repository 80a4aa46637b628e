use Rattle.std.proofs.Common.{◌≡◌, ◌+◌, map, drop}
use Rattle.sq_lists.specs.Boxes.{port_taken}
use Rattle.sq_lists.proofs.tuples.port_of_tuple.Given as goal

abbrev pub invariant-loop-i : goal.invariant-loop-i
invariant-loop-i l = port_taken (map (λ e. e.tree) l.preds) l.tuple ≡ l.i + port_taken (map (λ e. e.tree) (drop l.i l.preds)) l.tuple
