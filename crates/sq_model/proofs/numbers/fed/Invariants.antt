use Rattle.std.proofs.Common.{◌≡◌, map}
use Rattle.sq_words.specs.Lists.{numbers_to}
use Rattle.sq_model.specs.FullCounts.{fed_from}
use Rattle.sq_model.proofs.numbers.fed.Given as goal

abbrev pub invariant-loop-wires : goal.invariant-loop-wires
invariant-loop-wires l = l.all.items ≡ map (fed_from l.n (map (λ t. t.items) l.streams)) (numbers_to l.wires-index)
