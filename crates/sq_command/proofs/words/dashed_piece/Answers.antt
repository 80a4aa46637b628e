use Rattle.std.proofs.Common.{None, lit<}
use Rattle.std.proofs.lemmas.Str.Pattern.{strip_prefix_char}
use Rattle.sq_command.proofs.WordLemmas.{bad_piece}
use Rattle.sq_command.proofs.words.dashed_piece.Goals as goal

pub returns-in-None : goal.returns-in-None
returns-in-None c = bad_piece c.args.dashed.now (strip_prefix_char 45 c.args.dashed.now None c.in-None.ensures.cases (lit< tt))
