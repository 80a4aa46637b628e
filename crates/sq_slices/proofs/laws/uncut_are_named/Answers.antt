use Rattle.sq_model.proofs.PlacedLemmas.{placed_of}
use Rattle.sq_slices.proofs.FollowLemmas.{uncut-named}
use Rattle.sq_slices.proofs.laws.uncut_are_named.Goals as goal

pub returns : goal.returns
returns c delay reaches follows = uncut-named c.args.n.now (placed_of c.args.n.now c.requires) delay reaches follows
