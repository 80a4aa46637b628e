-- Union: the first mark of each time, with the bound for the output, and the tuples below the bound so far: words of the proofs alone.
use Rattle.std.specs.Prelude.{List, Option, Some, ℕ, [], if◌then◌else◌, ◌∷◌}
use Rattle.sq_tagged.specs.TaggedStreams.{Timed}
use Rattle.sq_words.specs.Options.{is_number}

-- the marks that are the first of their times, after one of the last time
abbrev pub first_after : Option ℕ → List Timed → List Timed
first_after last [] = []
first_after last (m ∷ ms) = if is_number m.0 last then first_after last ms else m ∷ first_after (Some m.0) ms
