use Rattle.std.proofs.Common.{length}
use Rattle.sq_aggfn.proofs.bundle.+add_texts.Given as goal

abbrev pub decreases-add_texts : goal.decreases-add_texts
decreases-add_texts l = length l.funcs.now
