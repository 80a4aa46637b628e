use Rattle.sq_slices.proofs.DropLemmas.{drop-same}
use Rattle.sq_slices.proofs.laws.slices_drop_the_same.Goals as goal

pub returns : goal.returns
returns c r = drop-same r
