use Rattle.std.proofs.Common.{◌≡◌, ℕ, ◌≤◌, ◌++◌, length}
use Rattle.std.specs.List.{AllByRecursion}
use Rattle.sq_words.specs.Lists.{IsPrefixOf}
use Rattle.sq_lists.specs.Sides.{recent}
use Rattle.sq_lists.specs.Resamples.{resample_of}
use Rattle.sq_oper.specs.Outflow.{given, ItemsSound}
use Rattle.sq_oper.specs.Streams.{things, at_zero}
use Rattle.sq_rounds.specs.Rounds.{CanGive, first_time_from, passed}
use Rattle.sq_running.specs.Running.{IsRunning, IsSum}
use Rattle.sq_rounds.proofs.rounds.give_ready.Given as goal

abbrev pub invariant-loop-x : goal.invariant-loop-x
invariant-loop-x g l = record {
  given : (q : ℕ) → given q (g.T.Outlet.items l.out) ++ at_zero q (things (resample_of (g.F.Fold.table l.fold) l.size (passed l.size l.now l.waiting.items) l.held.tuples.items))
      ≡ given q (g.T.Outlet.items l.fn.out) ++ at_zero q (things (resample_of (g.F.Fold.table l.fold) l.size (passed l.size l.now l.fn.waiting.items) l.fn.held.tuples.items));
  waits : recent l.size l.now l.waiting.items ≡ recent l.size l.now l.fn.waiting.items;
  keeps : recent l.size (first_time_from l.now (recent l.size l.now l.waiting.items)) l.held.tuples.items ≡ recent l.size (first_time_from l.now (recent l.size l.now l.fn.waiting.items)) l.fn.held.tuples.items;
  can : CanGive (g.F.Fold.width l.fold) l.size l.waiting.items l.held.tuples.items;
  early : AllByRecursion (λ x. x.time ≤ l.now) l.waiting.items;
  runs : IsRunning (IsSum (g.F.Fold.joined l.fold) (g.F.Fold.unit l.fold) (g.F.Fold.none l.fold) (g.F.Fold.made l.fold) (g.F.Fold.number l.fold)) l.held.tuples.items l.held.heads.items l.held.tail;
  sound : ItemsSound (g.T.Outlet.items l.fn.out) → ItemsSound (g.T.Outlet.items l.out);
  extends : IsPrefixOf (g.T.Outlet.items l.fn.out) (g.T.Outlet.items l.out);
  drops : g.T.Outlet.drops l.out ≡ g.T.Outlet.drops l.fn.out;
  ready : g.T.Outlet.ready l.out;
  came : (start : g.row.T.Denot) → g.T.Outlet.came start l.fn.out → g.T.Outlet.came start l.out;
}

abbrev pub decreases-loop-x : goal.decreases-loop-x
decreases-loop-x g l = length l.waiting.items
