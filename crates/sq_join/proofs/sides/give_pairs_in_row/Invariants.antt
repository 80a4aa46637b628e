use Rattle.std.proofs.Common.{◌≡◌, ℕ, ◌+◌, ◌<◌, ◌≤◌, ◌++◌, drop, length}
use Rattle.std.specs.List.{AllByRecursion}
use Rattle.sq_words.specs.Lists.{IsPrefixOf}
use Rattle.sq_oper.specs.Outflow.{given, ItemsSound}
use Rattle.sq_oper.specs.Streams.{IsSoundTuple, things, at_zero}
use Rattle.sq_lists.specs.Sides.{pair_at, pairs_with}
use Rattle.sq_join.proofs.IndexLemmas.{standing_at}
use Rattle.sq_join.proofs.sides.give_pairs_in_row.Given as goal

abbrev pub invariant-loop-i : goal.invariant-loop-i
invariant-loop-i g l = record {
  given : (q : ℕ) → given q (g.T.Outlet.items l.out) ++ at_zero q (things (pairs_with l.on.tree l.side l.x (standing_at l.first l.others.items (drop l.i l.positions.items))))
      ≡ given q (g.T.Outlet.items l.fn.out) ++ at_zero q (things (pairs_with l.on.tree l.side l.x l.others.items));
  pairs : AllByRecursion (λ y. IsSoundTuple (pair_at l.side l.x y)) (standing_at l.first l.others.items (drop l.i l.positions.items));
  within : AllByRecursion (λ p. (l.first ≤ p) × (p < l.first + length l.others.items)) (drop l.i l.positions.items);
  sound : ItemsSound (g.T.Outlet.items l.fn.out) → ItemsSound (g.T.Outlet.items l.out);
  extends : IsPrefixOf (g.T.Outlet.items l.fn.out) (g.T.Outlet.items l.out);
  drops : g.T.Outlet.drops l.out ≡ g.T.Outlet.drops l.fn.out;
  ready : g.T.Outlet.ready l.out;
  came : (start : g.row.T.Denot) → g.T.Outlet.came start l.fn.out → g.T.Outlet.came start l.out;
}
