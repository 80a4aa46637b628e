use Rattle.std.proofs.Common.{◌≡◌, None, map}
use Rattle.sq_words.specs.Lists.{numbers_to}
use Rattle.sq_slices.proofs.rounds.no_reaches.Given as goal

abbrev pub invariant-loop-stream : goal.invariant-loop-stream
invariant-loop-stream l = l.reaches.items ≡ map (λ s. None) (numbers_to l._stream)
