use Rattle.std.proofs.Common.{None, lit<}
use Rattle.std.proofs.lemmas.Str.Pattern.{split_once_first}
use Rattle.sq_command.proofs.WordLemmas.{opens_piece}
use Rattle.sq_command.proofs.words.named_piece.Goals as goal

pub returns-in-None : goal.returns-in-None
returns-in-None c = opens_piece c.args.named.now (split_once_first 61 c.args.named.now None c.in-None.ensures.cases (lit< tt))
