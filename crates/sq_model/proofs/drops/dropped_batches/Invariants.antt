use Rattle.std.proofs.Common.{◌≡◌, ◌&&◌}
use Rattle.std.specs.List.{filter}
use Rattle.sq_words.specs.Lists.{numbers_to}
use Rattle.sq_model.specs.Shedding.{is_touched}
use Rattle.sq_model.specs.GivenLevels.{drops_at}
use Rattle.sq_model.proofs.drops.dropped_batches.Given as goal

abbrev pub invariant-loop-b : goal.invariant-loop-b
invariant-loop-b l = l.batches.items ≡ filter (λ b. is_touched l.p l.tuples b && drops_at l.levels l.seed l.w l.p b) (numbers_to l.b)
