use Rattle.std.proofs.Common.{length}
use Rattle.sq_groups.proofs.picked.+compare_values.Given as goal

abbrev pub decreases-compare_values : goal.decreases-compare_values
decreases-compare_values l = length l.by.now
