use Rattle.std.proofs.Common.{ℕ, ◌≡◌, ◌-◌, ◌≤◌, ◌++◌}
use Rattle.std.specs.List.{AllByRecursion, flat_map, range_with_len}
use Rattle.sq_words.specs.Lists.{IsPrefixOf}
use Rattle.sq_aggfn.specs.Windows.{start_of}
use Rattle.sq_oper.specs.Outflow.{given, ItemsSound}
use Rattle.sq_oper.specs.Streams.{at_zero}
use Rattle.sq_pane.specs.States.{states_of}
use Rattle.sq_agg.specs.Holdings.{IsSoundMark, bound_for, bounds_of, closed_at, due_before, ended}
use Rattle.sq_agg.proofs.ending.give_windows.Given as goal

abbrev pub invariant-loop-k : goal.invariant-loop-k
invariant-loop-k g l = record {
  given : (q : ℕ) → given q (g.T.Outlet.items l.out)
      ++ at_zero q (due_before (g.F.Fold.told l.panes.fold) l.mid (bounds_of l.waiting).waiting (flat_map (ended (g.F.Fold.none l.panes.fold) (g.F.Fold.joined l.panes.fold) l.panes.window l.panes.width (bounds_of l.initial.waiting) (states_of l.panes.held)) (range_with_len l.k (l.end - l.k))))
      ≡ given q (g.T.Outlet.items l.initial.out)
      ++ at_zero q (due_before (g.F.Fold.told l.panes.fold) l.mid (bounds_of l.initial.waiting).waiting (flat_map (ended (g.F.Fold.none l.panes.fold) (g.F.Fold.joined l.panes.fold) l.panes.window l.panes.width (bounds_of l.initial.waiting) (states_of l.panes.held)) (range_with_len l.from (l.end - l.from))));
  closed : closed_at l.mid (bounds_of l.waiting) ≡ closed_at l.mid (bounds_of l.initial.waiting);
  allowed : (j : ℕ) → l.k ≤ j → bound_for (bounds_of l.waiting) (start_of l.panes.window j) ≡ bound_for (bounds_of l.initial.waiting) (start_of l.panes.window j);
  marks : AllByRecursion IsSoundMark (bounds_of l.waiting).waiting;
  sound : ItemsSound (g.T.Outlet.items l.initial.out) → ItemsSound (g.T.Outlet.items l.out);
  extends : IsPrefixOf (g.T.Outlet.items l.initial.out) (g.T.Outlet.items l.out);
  drops : g.T.Outlet.drops l.out ≡ g.T.Outlet.drops l.initial.out;
  ready : g.T.Outlet.ready l.out;
  came : (start : g.row.T.Denot) → g.T.Outlet.came start l.initial.out → g.T.Outlet.came start l.out;
}
