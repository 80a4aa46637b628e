use Rattle.std.proofs.Common.{◌≡◌, ℕ, ◌++◌, [], drop, map}
use Rattle.std.specs.List.{AllByRecursion}
use Rattle.sq_words.specs.Lists.{IsPrefixOf}
use Rattle.sq_oper.specs.Outflow.{given, ItemsSound}
use Rattle.sq_oper.specs.Streams.{at_zero, things}
use Rattle.sq_pane.specs.Panes.{lent_group, window_from}
use Rattle.sq_rows.specs.Rows.{AllAreMade}
use Rattle.sq_pane.specs.States.{states_of}
use Rattle.sq_agg.specs.Holdings.{FitsResult, results_of, tagged}
use Rattle.sq_agg.proofs.results.give_results.Given as goal

abbrev pub invariant-loop-entry : goal.invariant-loop-entry
invariant-loop-entry g l = record {
  given : (q : ℕ) → given q (g.T.Outlet.items l.out) ++ at_zero q (things (results_of (g.F.Fold.told l.panes.fold) (tagged l.start (map lent_group (drop l.entry-index l.entry-items)))))
      ≡ given q (g.T.Outlet.items l.initial.out)
      ++ at_zero q (things (results_of (g.F.Fold.told l.panes.fold) (tagged l.start (window_from (g.F.Fold.none l.panes.fold) (g.F.Fold.joined l.panes.fold) l.panes.window l.panes.width l.start [] (states_of l.panes.held)))));
  made : AllAreMade (g.F.Fold.made l.panes.fold) (map lent_group (drop l.entry-index l.entry-items));
  fit : AllByRecursion (λ e. FitsResult (g.F.Fold.width l.panes.fold) e.0) (map lent_group (drop l.entry-index l.entry-items));
  sound : ItemsSound (g.T.Outlet.items l.initial.out) → ItemsSound (g.T.Outlet.items l.out);
  extends : IsPrefixOf (g.T.Outlet.items l.initial.out) (g.T.Outlet.items l.out);
  drops : g.T.Outlet.drops l.out ≡ g.T.Outlet.drops l.initial.out;
  ready : g.T.Outlet.ready l.out;
  came : (start : g.row.T.Denot) → g.T.Outlet.came start l.initial.out → g.T.Outlet.came start l.out;
}
