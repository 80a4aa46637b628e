use Rattle.sq_slices.proofs.NetworkSteps.{slices-answer}
use Rattle.sq_slices.proofs.laws.slices_answer_slices.Goals as goal

pub returns : goal.returns
returns c delay reaches follows = slices-answer c.args.n.now c.requires delay reaches follows
