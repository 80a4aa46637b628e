use Rattle.std.proofs.Common.{length}
use Rattle.sq_qos.proofs.points.+on_grid.Given as goal

abbrev pub decreases-on_grid : goal.decreases-on_grid
decreases-on_grid l = length l.points.now
