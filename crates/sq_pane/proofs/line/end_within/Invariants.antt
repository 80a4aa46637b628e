use Rattle.std.proofs.Common.{◌≡◌, ◌<◌, ◌≤◌, drop, Option}
use Rattle.sq_pane.specs.Panes.{joined_within}
use Rattle.sq_pane.proofs.line.end_within.Given as goal

abbrev pub invariant-loop-end : goal.invariant-loop-end
invariant-loop-end g l = record {
  from : l.from ≤ l.end;
  to : l.end ≤ l.to;
  some : l.from < l.to → l.from < l.end;
  after : (none : g.row.S.Denot) (join : g.row.S.Denot → g.row.S.Denot → g.row.S.Denot) (o : Option g.row.S.Denot) → joined_within none join l.window l.width l.start o (drop l.to l.states.items)
      ≡ joined_within none join l.window l.width l.start o (drop l.end l.states.items);
}

abbrev pub decreases-loop-end : goal.decreases-loop-end
decreases-loop-end g l = l.end
