use Rattle.std.proofs.Common.{◌≡◌, drop, map}
use Rattle.sq_command.specs.Commands.{option_values}
use Rattle.sq_command.proofs.WordLemmas.{with_found}
use Rattle.sq_command.proofs.words.value_of.Given as goal
use Rattle.sq_command.specs.WordViews.{text_view, given_view}

abbrev pub invariant-loop-one : goal.invariant-loop-one
invariant-loop-one l = with_found l.found (option_values (text_view l.option) (map given_view (drop l.one-index l.given))) ≡ option_values (text_view l.option) (map given_view l.given)
