use Rattle.sq_model.proofs.PlacedLemmas.{placed_of}
use Rattle.sq_model.proofs.laws.sound_is_placed.Goals as goal

pub returns : goal.returns
returns c = placed_of c.args.n.now c.requires
