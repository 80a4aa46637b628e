use Rattle.sq_slices.proofs.ShowLemmas.{show-run}
use Rattle.sq_slices.proofs.laws.slices_show_the_run.Goals as goal

pub returns : goal.returns
returns c r delay reaches sound limits follows = show-run r sound limits delay reaches follows
