use Rattle.std.proofs.Common.{◌≡◌, ◌+◌, ◌≤◌, ◌++◌, true, map, drop}
use Rattle.std.specs.Map.Iter.{deref_pair}
use Rattle.sq_pane.specs.Panes.{lent_group}
use Rattle.sq_rows.specs.Rows.{total, AllAreMade}
use Rattle.sq_pane.specs.Blocks.{IsJoin}
use Rattle.sq_pane.specs.States.{states_of, HaveBlocks}
use Rattle.sq_pane.proofs.held.groups_at.Given as goal
use Rattle.sq_pane.proofs.StateWords.{groups_within}

abbrev pub invariant-loop-entry : goal.invariant-loop-entry
invariant-loop-entry g l = record {
  value : map lent_group l.groups.items ++ groups_within (g.F.Fold.none l.fold) (g.F.Fold.joined l.fold) l.window l.width l.start (map deref_pair (drop l.entry-index l.entry-items))
      ≡ groups_within (g.F.Fold.none l.fold) (g.F.Fold.joined l.fold) l.window l.width l.start l.held;
  made : AllAreMade (g.F.Fold.made l.fold) (map lent_group l.groups.items);
  blocks : l.by_blocks ≡ true → HaveBlocks (IsJoin (g.F.Fold.none l.fold) (g.F.Fold.joined l.fold) (g.F.Fold.made l.fold) (g.F.Fold.number l.fold)) (map deref_pair (drop l.entry-index l.entry-items));
  left : AllAreMade (g.F.Fold.made l.fold) (states_of (map deref_pair (drop l.entry-index l.entry-items)));
  few : total (g.F.Fold.number l.fold) (map lent_group l.groups.items) + total (g.F.Fold.number l.fold) (states_of (map deref_pair (drop l.entry-index l.entry-items))) ≤ total (g.F.Fold.number l.fold) (states_of l.held);
}
