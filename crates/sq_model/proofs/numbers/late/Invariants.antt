use Rattle.std.proofs.Common.{◌≡◌, map}
use Rattle.sq_words.specs.Lists.{numbers_to}
use Rattle.sq_model.specs.FullCounts.{late_from}
use Rattle.sq_model.proofs.numbers.late.Given as goal

abbrev pub invariant-loop-at : goal.invariant-loop-at
invariant-loop-at l = l.all.items ≡ map (late_from l.n (map (λ t. t.items) l.streams)) (numbers_to l.at)
