use Rattle.std.proofs.Common.{◌≡◌, None, drop, map}
use Rattle.std.specs.String.{string_bytes}
use Rattle.sq_command.specs.Commands.{given_from}
use Rattle.sq_command.proofs.WordLemmas.{with_given}
use Rattle.sq_command.proofs.words.read_given.Given as goal
use Rattle.sq_command.specs.WordViews.{text_view, given_view}

abbrev pub invariant-loop-word : goal.invariant-loop-word
invariant-loop-word l = with_given (map given_view l.given.items) (given_from (map string_bytes (drop l.word-index l.words)) (text_view l.pending)) ≡ given_from (map string_bytes l.words) None
