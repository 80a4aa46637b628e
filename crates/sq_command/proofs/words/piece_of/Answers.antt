use Rattle.std.proofs.Common.{None, lit<, sym, ◌∙◌}
use Rattle.std.proofs.lemmas.Str.Pattern.{strip_prefix_char}
use Rattle.sq_command.proofs.WordLemmas.{plain_piece}
use Rattle.sq_command.proofs.words.piece_of.Goals as goal

pub returns-in-None : goal.returns-in-None
returns-in-None c = plain_piece c.args.word.now (sym c.is_empty.ensures ∙ c.if-is_empty.false) (strip_prefix_char 45 c.args.word.now None c.in-None.ensures.cases (lit< tt))
