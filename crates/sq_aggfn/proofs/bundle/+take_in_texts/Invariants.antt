use Rattle.std.proofs.Common.{length}
use Rattle.sq_aggfn.proofs.bundle.+take_in_texts.Given as goal

abbrev pub decreases-take_in_texts : goal.decreases-take_in_texts
decreases-take_in_texts l = length l.funcs.now
