use Rattle.sq_starts.proofs.Starts.{times_start}
use Rattle.sq_starts.proofs.times_are_starts.Goals as goal

pub returns : goal.returns
returns c = times_start
