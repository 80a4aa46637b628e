use Rattle.std.proofs.Common.{◌≡◌, ◌-◌, drop, length, None}
use Rattle.sq_running.specs.Running.{AreHeads, IsSum}
use Rattle.sq_running.proofs.running.renew.Given as goal

abbrev pub invariant-loop-i : goal.invariant-loop-i
invariant-loop-i g l = record {
  tuples : l.held.tuples.items ≡ l.fn.held.tuples.items;
  heads : AreHeads (IsSum (g.F.Fold.joined l.fold) (g.F.Fold.unit l.fold) (g.F.Fold.none l.fold) (g.F.Fold.made l.fold) (g.F.Fold.number l.fold)) (drop (length l.fn.held.tuples.items - l.i) l.fn.held.tuples.items) l.held.heads.items;
  tail : l.held.tail ≡ None;
}
