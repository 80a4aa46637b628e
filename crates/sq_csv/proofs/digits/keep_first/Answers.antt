use Rattle.sq_csv.proofs.DigitLemmas.{bytes_up}
use Rattle.sq_csv.proofs.digits.keep_first.Goals as goal

pub returns : goal.returns
returns c = bytes_up c.args.word c.args.count c.requires
