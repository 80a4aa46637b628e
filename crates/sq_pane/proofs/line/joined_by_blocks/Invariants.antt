use Rattle.std.proofs.Common.{◌≡◌, ◌+◌, ◌≤◌, None, length, drop}
use Rattle.sq_pane.specs.Panes.{joined_within, IsMadeIf}
use Rattle.sq_rows.specs.Rows.{total}
use Rattle.sq_pane.specs.Blocks.{IsJoin, AreBlocks}
use Rattle.sq_pane.proofs.line.joined_by_blocks.Given as goal
use Rattle.sq_aggfn.specs.Folds.{number_if}

abbrev pub invariant-loop-k : goal.invariant-loop-k
invariant-loop-k g l = record {
  within : l.at ≤ length l.line.states.items;
  blocks : AreBlocks 64 (IsJoin (g.F.Fold.none l.fold) (g.F.Fold.joined l.fold) (g.F.Fold.made l.fold) (g.F.Fold.number l.fold)) (drop l.k l.line.blocks.items) (drop l.at l.line.states.items);
  value : joined_within (g.F.Fold.none l.fold) (g.F.Fold.joined l.fold) l.window l.width l.start l.joined (drop l.at l.line.states.items)
      ≡ joined_within (g.F.Fold.none l.fold) (g.F.Fold.joined l.fold) l.window l.width l.start None l.line.states.items;
  made : IsMadeIf (g.F.Fold.made l.fold) l.joined;
  few : number_if (g.F.Fold.number l.fold) l.joined + total (g.F.Fold.number l.fold) (drop l.at l.line.states.items) ≤ total (g.F.Fold.number l.fold) l.line.states.items;
}
