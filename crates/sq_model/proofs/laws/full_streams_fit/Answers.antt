use Rattle.sq_model.proofs.StreamTypes.{streams-fit}
use Rattle.sq_model.proofs.laws.full_streams_fit.Goals as goal

pub returns : goal.returns
returns c = λ sources fit. streams-fit c.args.n.now c.requires sources fit
