use Rattle.sq_slices.proofs.RunLemmas.{slices-make-run}
use Rattle.sq_slices.proofs.laws.slices_make_the_run.Goals as goal

pub returns : goal.returns
returns c delay small = slices-make-run c.args.n.now c.requires delay small
