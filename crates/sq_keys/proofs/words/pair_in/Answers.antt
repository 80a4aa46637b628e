use Rattle.std.proofs.Common.{None, lit<}
use Rattle.std.proofs.lemmas.Str.Pattern.{split_once_first}
use Rattle.sq_keys.proofs.WordLemmas.{no_pair}
use Rattle.sq_keys.proofs.words.pair_in.Goals as goal

pub returns-in-None-clause-usage : goal.returns-in-None-clause-usage
returns-in-None-clause-usage c _ = no_pair c.args.word.now (split_once_first 61 c.args.word.now None c.in-None.ensures.cases (lit< tt))
