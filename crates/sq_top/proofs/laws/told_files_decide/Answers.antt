use Rattle.sq_top.proofs.ToldLemmas.{ends_over}
use Rattle.sq_top.proofs.laws.told_files_decide.Goals as goal

pub returns : goal.returns
returns c = ends_over
