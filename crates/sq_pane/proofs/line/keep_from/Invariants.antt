use Rattle.std.proofs.Common.{◌≡◌, length, drop}
use Rattle.std.specs.Prelude.{nat_le}
use Rattle.std.specs.List.{filter}
use Rattle.sq_pane.specs.Blocks.{IsJoin, AreBlocks}
use Rattle.sq_pane.proofs.line.keep_from.Given as goal

abbrev pub invariant-loop-line : goal.invariant-loop-line
invariant-loop-line g l = record {
  kept : filter (λ e. nat_le l.pane e.0) l.line.states.items ≡ filter (λ e. nat_le l.pane e.0) l.initial.line.states.items;
  blocks : AreBlocks 64 (IsJoin (g.F.Fold.none l.fold) (g.F.Fold.joined l.fold) (g.F.Fold.made l.fold) (g.F.Fold.number l.fold)) l.initial.line.blocks.items (drop l.initial.line.ahead l.initial.line.states.items)
      → AreBlocks 64 (IsJoin (g.F.Fold.none l.fold) (g.F.Fold.joined l.fold) (g.F.Fold.made l.fold) (g.F.Fold.number l.fold)) l.line.blocks.items (drop l.line.ahead l.line.states.items);
}

abbrev pub decreases-loop-line : goal.decreases-loop-line
decreases-loop-line g l = length l.line.states.items
