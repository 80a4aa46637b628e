use Rattle.std.proofs.Common.{◌≡◌, drop, Option}
use Rattle.sq_pane.specs.Panes.{joined_within}
use Rattle.sq_pane.proofs.line.first_within.Given as goal

abbrev pub invariant-loop-at : goal.invariant-loop-at
invariant-loop-at g l = (none : g.row.S.Denot) (join : g.row.S.Denot → g.row.S.Denot → g.row.S.Denot) (o : Option g.row.S.Denot) → joined_within none join l.window l.width l.start o (drop l.at l.states.items)
    ≡ joined_within none join l.window l.width l.start o (drop l.from l.states.items)
