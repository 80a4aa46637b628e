use Rattle.sq_csv.proofs.DigitLemmas.{eight_is}
use Rattle.sq_csv.proofs.digits.value_of_eight.Goals as goal

pub returns : goal.returns
returns c ds eight e = eight_is ds c.args.word eight e
