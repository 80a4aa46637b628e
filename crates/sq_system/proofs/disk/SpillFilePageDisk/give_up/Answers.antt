use Rattle.sq_system.proofs.KeepLemmas.{kept-given-up}
use Rattle.sq_system.proofs.disk.SpillFilePageDisk.give_up.Goals as goal

pub invariant_of-self : goal.invariant_of-self
invariant_of-self g c = rw c.gone.ensures (kept-given-up _ _ _ c.self.invariant)
