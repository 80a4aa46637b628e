-- Streams with marks, as a pair of lists and as they stand on an arc: words of the proofs alone.
use Rattle.sq_item.specs.Things.{Body, Content, Sign, Thing}
use Rattle.std.specs.Prelude.{List, ℕ, [], ◌+◌, ◌≤◌, ◌∷◌, ◌++◌}
use Rattle.sq_tagged.specs.TaggedStreams.{Timed, mark_in}

abbrev pub marks_in : List Thing → List Timed
marks_in [] = []
marks_in (x ∷ xs) = mark_in x.time x.content ++ marks_in xs

abbrev pub StandsFrom : ℕ → ℕ → ℕ → Content → Type 0
StandsFrom a b time (Sign m) = a ≤ time
StandsFrom a b time (Body fields) = b ≤ time

abbrev pub IsOrdered : ℕ → ℕ → List Thing → Type 0
IsOrdered a b [] = Unit {0}
IsOrdered a b (x ∷ xs) = StandsFrom a b x.time x.content × IsOrdered (x.time + 1) x.time xs
