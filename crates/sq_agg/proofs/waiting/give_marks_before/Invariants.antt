use Rattle.std.proofs.Common.{◌≡◌, ℕ, ◌++◌, map, length}
use Rattle.std.specs.List.{AllByRecursion}
use Rattle.sq_words.specs.Lists.{IsPrefixOf}
use Rattle.sq_oper.specs.Outflow.{given, ItemsSound}
use Rattle.sq_oper.specs.Streams.{at_zero}
use Rattle.sq_tagged.specs.TaggedStreams.{mark_thing}
use Rattle.sq_agg.specs.Holdings.{IsSoundMark, bounds_of, closed_at, marks_before}
use Rattle.sq_agg.proofs.waiting.give_marks_before.Given as goal

abbrev pub invariant-loop-waiting : goal.invariant-loop-waiting
invariant-loop-waiting g l = record {
  given : (q : ℕ) → given q (g.T.Outlet.items l.out) ++ at_zero q (map mark_thing (marks_before l.mid (bounds_of l.waiting).waiting))
      ≡ given q (g.T.Outlet.items l.initial.out) ++ at_zero q (map mark_thing (marks_before l.mid (bounds_of l.initial.waiting).waiting));
  closed : closed_at l.mid (bounds_of l.waiting) ≡ closed_at l.mid (bounds_of l.initial.waiting);
  marks : AllByRecursion IsSoundMark (bounds_of l.waiting).waiting;
  sound : ItemsSound (g.T.Outlet.items l.initial.out) → ItemsSound (g.T.Outlet.items l.out);
  extends : IsPrefixOf (g.T.Outlet.items l.initial.out) (g.T.Outlet.items l.out);
  drops : g.T.Outlet.drops l.out ≡ g.T.Outlet.drops l.initial.out;
  ready : g.T.Outlet.ready l.out;
  came : (start : g.row.T.Denot) → g.T.Outlet.came start l.initial.out → g.T.Outlet.came start l.out;
}

abbrev pub decreases-loop-waiting : goal.decreases-loop-waiting
decreases-loop-waiting g l = length (bounds_of l.waiting).waiting
