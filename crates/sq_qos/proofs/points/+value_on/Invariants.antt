use Rattle.std.proofs.Common.{length}
use Rattle.sq_qos.proofs.points.+value_on.Given as goal

abbrev pub decreases-value_on : goal.decreases-value_on
decreases-value_on l = length l.points.now
