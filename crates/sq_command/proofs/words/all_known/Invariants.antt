use Rattle.std.proofs.Common.{◌≡◌, drop, map}
use Rattle.std.specs.List.{list_all}
use Rattle.sq_command.specs.Commands.{is_known_option}
use Rattle.sq_command.proofs.words.all_known.Given as goal
use Rattle.sq_command.specs.WordViews.{given_view}

abbrev pub invariant-loop-one : goal.invariant-loop-one
invariant-loop-one l = list_all (λ g. is_known_option g.0) (map given_view (drop l.one-index l.given)) ≡ list_all (λ g. is_known_option g.0) (map given_view l.given)
