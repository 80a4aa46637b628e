use Rattle.std.proofs.Common.{◌≡◌, map}
use Rattle.sq_words.specs.Lists.{numbers_to}
use Rattle.sq_core.specs.Runs.{late_at_seat}
use Rattle.sq_due.proofs.writing.count_late.Given as goal

abbrev pub invariant-loop-at : goal.invariant-loop-at
invariant-loop-at l = l.late.items ≡ map (late_at_seat l.engine) (numbers_to l.at)
