use Rattle.sq_replay.proofs.CutLemmas.{few_read}
use Rattle.sq_replay.proofs.testing.behind_int.Goals as goal

pub returns-in-Some : goal.returns-in-Some
returns-in-Some c = few_read c.args.text.now c.args.from c.in-Some.at c.in-Some.ensures.cut
