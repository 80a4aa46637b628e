use Rattle.sq_model.proofs.LateLemmas.{late_are_the_rest}
use Rattle.sq_model.proofs.laws.late_tuples_are_the_rest.Goals as goal

pub returns : goal.returns
returns c sources = late_are_the_rest c.args.n.now sources c.requires
