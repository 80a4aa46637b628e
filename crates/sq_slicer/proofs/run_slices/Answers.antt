use Rattle.sq_teller.proofs.EndLemmas.{told_no_memory}
use Rattle.sq_slicer.proofs.ToldLemmas.{ends_told}
use Rattle.sq_slicer.proofs.run_slices.Goals as goal

pub returns-clause-ends : goal.returns-clause-ends
returns-clause-ends g c = ends_told _ _ c.run-status.result c.told.result c.told.ensures.status c.run-status.ensures.ends

pub returns-clause-no_memory : goal.returns-clause-no_memory
returns-clause-no_memory g c = told_no_memory c.run-status.result c.told.result c.told.ensures.status c.run-status.ensures.no_memory
