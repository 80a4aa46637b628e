use Rattle.sq_top.proofs.PartLemmas.{taps_show}
use Rattle.sq_top.proofs.laws.taps_show_parts.Goals as goal

pub returns : goal.returns
returns c = taps_show
