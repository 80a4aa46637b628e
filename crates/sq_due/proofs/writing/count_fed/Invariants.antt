use Rattle.std.proofs.Common.{◌≡◌, map}
use Rattle.sq_words.specs.Lists.{numbers_to}
use Rattle.sq_core.specs.Runs.{fed_at}
use Rattle.sq_due.proofs.writing.count_fed.Given as goal

abbrev pub invariant-loop-at : goal.invariant-loop-at
invariant-loop-at l = l.fed.items ≡ map (fed_at l.engine) (numbers_to l.at)
