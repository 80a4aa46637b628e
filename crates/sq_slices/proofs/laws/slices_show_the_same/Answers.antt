use Rattle.sq_slices.proofs.DropLemmas.{show-same}
use Rattle.sq_slices.proofs.laws.slices_show_the_same.Goals as goal

pub returns : goal.returns
returns c r = show-same r
