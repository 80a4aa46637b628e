use Rattle.std.proofs.Common.{◌≡◌, ◌+◌, ◌-◌, ◌≤◌, take, drop}
use Rattle.sq_rows.specs.Rows.{total, joined_onto}
use Rattle.sq_rows.proofs.rows.take_in_row.Given as goal

abbrev pub invariant-loop-i : goal.invariant-loop-i
invariant-loop-i g l = record {
  value : joined_onto (g.F.Fold.joined l.fold) l.own (take (l.to - l.i) (drop l.i l.states.items)) ≡ joined_onto (g.F.Fold.joined l.fold) l.initial.own (take (l.to - l.from) (drop l.from l.states.items));
  made : g.F.Fold.made l.fold l.own;
  few : g.F.Fold.number l.fold l.own + total (g.F.Fold.number l.fold) (drop l.i l.states.items) ≤ g.F.Fold.number l.fold l.initial.own + total (g.F.Fold.number l.fold) (drop l.from l.states.items);
}
