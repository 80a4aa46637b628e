use Rattle.sq_top.proofs.ToldLemmas.{folder_causes}
use Rattle.sq_top.proofs.laws.folders_have_causes.Goals as goal

pub returns : goal.returns
returns c = folder_causes
