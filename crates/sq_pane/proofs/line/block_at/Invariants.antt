use Rattle.std.proofs.Common.{◌≡◌, ◌+◌, ◌-◌, ◌≤◌, take, drop}
use Rattle.sq_rows.specs.Rows.{total, joined_onto}
use Rattle.sq_pane.proofs.line.block_at.Given as goal

abbrev pub invariant-loop-i : goal.invariant-loop-i
invariant-loop-i g l = record {
  value : joined_onto (g.F.Fold.joined l.fold) l.block (take (l.at + 64 - l.i) (drop l.i l.states.items)) ≡ joined_onto (g.F.Fold.joined l.fold) (g.F.Fold.none l.fold) (take 64 (drop l.at l.states.items));
  kept : g.F.Fold.made l.fold l.block;
  count : g.F.Fold.number l.fold l.block + total (g.F.Fold.number l.fold) (take (l.at + 64 - l.i) (drop l.i l.states.items)) ≤ total (g.F.Fold.number l.fold) (take 64 (drop l.at l.states.items));
}
