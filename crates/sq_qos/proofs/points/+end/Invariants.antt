use Rattle.std.proofs.Common.{length}
use Rattle.sq_qos.proofs.points.+end.Given as goal

abbrev pub decreases-end : goal.decreases-end
decreases-end l = length l.points.now
