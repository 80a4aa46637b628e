use Rattle.std.proofs.Common.{◌≡◌, map, length}
use Rattle.sq_words.specs.Lists.{numbers_to}
use Rattle.sq_model.specs.Shedding.{Replay}
use Rattle.sq_model.specs.KeptTuples.{kept_of}
use Rattle.sq_model.specs.KnownStreams.{IsKnown}
use Rattle.sq_model.proofs.answers.kept_numbers.Given as goal

abbrev pub invariant-loop-arc : goal.invariant-loop-arc
invariant-loop-arc l = record {
  kept : (r : Replay) → IsKnown l.known r → l.all.items ≡ map (λ a. length (kept_of r a)) (numbers_to l.arc);
  many : length l.all.items ≡ l.arc;
}
