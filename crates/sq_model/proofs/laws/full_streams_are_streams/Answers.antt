use Rattle.sq_model.proofs.StreamLemmas.{full_are_streams}
use Rattle.sq_model.proofs.laws.full_streams_are_streams.Goals as goal

pub returns : goal.returns
returns c sources all = full_are_streams c.args.n.now sources all
