use Rattle.sq_intake.proofs.ComeLemmas.{told_fits}
use Rattle.sq_intake.proofs.laws.what_is_told_fits.Goals as goal

pub returns : goal.returns
returns c = told_fits
