use Rattle.sq_top.proofs.HeadlineLemmas.{runs_keep}
use Rattle.sq_top.proofs.laws.runs_keep_the_headline.Goals as goal

pub returns : goal.returns
returns c = runs_keep
