use Rattle.std.proofs.Common.{◌≡◌, length}
use Rattle.sq_lists.specs.Sides.{recent}
use Rattle.sq_running.specs.Running.{IsRunning, IsSum}
use Rattle.sq_running.proofs.running.let_go.Given as goal

abbrev pub invariant-loop-held : goal.invariant-loop-held
invariant-loop-held g l = record {
  rest : recent l.size l.now l.held.tuples.items ≡ recent l.size l.now l.fn.held.tuples.items;
  runs : IsRunning (IsSum (g.F.Fold.joined l.fold) (g.F.Fold.unit l.fold) (g.F.Fold.none l.fold) (g.F.Fold.made l.fold) (g.F.Fold.number l.fold)) l.held.tuples.items l.held.heads.items l.held.tail;
}

abbrev pub decreases-loop-held : goal.decreases-loop-held
decreases-loop-held g l = length l.held.tuples.items
