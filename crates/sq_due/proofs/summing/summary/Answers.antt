use Rattle.sq_due.proofs.SameNumbers.{many_listed}
use Rattle.sq_due.proofs.summing.summary.Goals as goal

pub put_fed-requires : goal.put_fed-requires
put_fed-requires c = rw (c.as_slice-boxes.ensures, c.deref-3.ensures.value) (record { even = many_listed _ _ _ c.in_ok-fed.ensures })

pub put_lates-requires : goal.put_lates-requires
put_lates-requires c = rw (c.as_slice-boxes.ensures, c.deref-4.ensures.value) (record { even = many_listed _ _ _ c.in_ok-late.ensures })
