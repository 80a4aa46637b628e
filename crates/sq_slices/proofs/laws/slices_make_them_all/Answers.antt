use Rattle.sq_slices.proofs.NetworkSteps.{all-answer}
use Rattle.sq_slices.proofs.WholeLemmas.{makes-whole}
use Rattle.sq_slices.proofs.laws.slices_make_them_all.Goals as goal

pub returns : goal.returns
returns c delay reaches follows streams r is s has = makes-whole c.args.n.now c.requires delay s r (all-answer c.args.n.now c.requires delay reaches follows streams r is s has)
