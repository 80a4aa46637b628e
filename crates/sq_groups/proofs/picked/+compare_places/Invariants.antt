use Rattle.std.proofs.Common.{length}
use Rattle.sq_groups.proofs.picked.+compare_places.Given as goal

abbrev pub decreases-compare_places : goal.decreases-compare_places
decreases-compare_places l = length l.by.now
