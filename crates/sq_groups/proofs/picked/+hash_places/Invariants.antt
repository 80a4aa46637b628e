use Rattle.std.proofs.Common.{length}
use Rattle.sq_groups.proofs.picked.+hash_places.Given as goal

abbrev pub decreases-hash_places : goal.decreases-hash_places
decreases-hash_places g l = length l.by.now
