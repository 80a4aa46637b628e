use Rattle.sq_model.proofs.FullLemmas.{are_full}
use Rattle.sq_model.proofs.laws.full_streams_follow.Goals as goal

pub returns : goal.returns
returns c sources = are_full c.args.n.now sources c.requires
