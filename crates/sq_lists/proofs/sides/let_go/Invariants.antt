use Rattle.std.proofs.Common.{◌≡◌, length}
use Rattle.sq_lists.specs.Sides.{recent}
use Rattle.sq_lists.proofs.sides.let_go.Given as goal

abbrev pub invariant-loop-held : goal.invariant-loop-held
invariant-loop-held l = recent l.size l.now l.fn.held.items ≡ recent l.size l.now l.held.items

abbrev pub decreases-loop-held : goal.decreases-loop-held
decreases-loop-held l = length l.held.items
