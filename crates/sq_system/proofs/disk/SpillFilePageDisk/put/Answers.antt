use Rattle.sq_system.proofs.KeepLemmas.{kept-put, kept-lost}
use Rattle.sq_system.proofs.disk.SpillFilePageDisk.put.Goals as goal

pub invariant_of-self : goal.invariant_of-self
invariant_of-self g c = rw c.put.ensures (kept-put _ _ _ _ _ c.requires c.in-Ok.ensures.ok c.write_page.ensures.keeps c.self.invariant)

pub invariant_of-self-in-Err : goal.invariant_of-self-in-Err
invariant_of-self-in-Err g c = rw c.gone.ensures (kept-lost _ _ _ _ _ c.requires c.write_page.ensures.keeps c.self.invariant)
