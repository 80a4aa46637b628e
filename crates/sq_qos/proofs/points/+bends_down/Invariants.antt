use Rattle.std.proofs.Common.{length}
use Rattle.sq_qos.proofs.points.+bends_down.Given as goal

abbrev pub decreases-bends_down : goal.decreases-bends_down
decreases-bends_down l = length l.points.now
