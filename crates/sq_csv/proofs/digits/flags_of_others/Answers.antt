use Rattle.sq_csv.proofs.DigitLemmas.{flags_are}
use Rattle.sq_csv.proofs.digits.flags_of_others.Goals as goal

pub returns : goal.returns
returns c bytes eight is = flags_are bytes c.args.lanes eight is
