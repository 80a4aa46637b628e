use Rattle.sq_slices.proofs.NetworkSteps.{slices-answer}
use Rattle.sq_slices.proofs.WholeLemmas.{makes-whole}
use Rattle.sq_slices.proofs.laws.slices_make_the_whole.Goals as goal

pub returns : goal.returns
returns c delay reaches follows s r is = makes-whole c.args.n.now c.requires delay s r (slices-answer c.args.n.now c.requires delay reaches follows s r is)
