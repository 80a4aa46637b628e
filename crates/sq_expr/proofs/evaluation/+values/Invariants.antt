use Rattle.std.proofs.Common.{◌+◌, ◌*◌, max}
use Rattle.sq_expr.specs.declared.Tree.{size-Tree}
use Rattle.sq_expr.proofs.evaluation.+values.Given as goal

abbrev pub decreases-see : goal.decreases-see
decreases-see l = 4 * size-Tree l.tree.now

abbrev pub decreases-number_any : goal.decreases-number_any
decreases-number_any l = 4 * size-Tree l.tree.now + 1

abbrev pub decreases-number_here : goal.decreases-number_here
decreases-number_here l = 4 * size-Tree l.tree.now + 2

abbrev pub decreases-number_of : goal.decreases-number_of
decreases-number_of l = 4 * max (size-Tree l.a.now) (size-Tree l.b.now) + 3
