use Rattle.sq_model.proofs.PlacedLemmas.{placed_of}
use Rattle.sq_slices.proofs.FollowLemmas.{reaches-follow}
use Rattle.sq_slices.proofs.laws.reaches_follow.Goals as goal

pub returns : goal.returns
returns c delay = reaches-follow c.args.n.now delay (placed_of c.args.n.now c.requires)
