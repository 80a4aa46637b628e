use Rattle.std.proofs.Common.{length}
use Rattle.sq_join.proofs.keys.+code_with_all.Given as goal

abbrev pub decreases-code_with_all : goal.decreases-code_with_all
decreases-code_with_all l = length l.parts.now
