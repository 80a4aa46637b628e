use Rattle.sq_system.proofs.KeepLemmas.{kept-empty}
use Rattle.sq_system.proofs.disk.SpillFile.new.Goals as goal

pub invariant_of-result : goal.invariant_of-result
invariant_of-result g c = rw c.new.ensures (kept-empty _)
