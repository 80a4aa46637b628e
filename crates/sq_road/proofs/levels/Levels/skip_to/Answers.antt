use Rattle.std.proofs.Common.{slice_index, ap}
use Rattle.sq_road.proofs.LevelLemmas.{row_at-later}
use Rattle.sq_road.proofs.levels.Levels.skip_to.Goals as goal

pub returns-clause-skips : goal.returns-clause-skips
returns-clause-skips c x w later =
    ap (λ row. slice_index row w) (row_at-later c.self.inside.closed x c.self.inside.rows.entries c.self.invariant.2 (rw (← c.self.view_is) at later))
