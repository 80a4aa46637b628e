-- What the arcs below a window drop carry: words of the proofs alone.
use Rattle.std.specs.List.{AllByRecursion}
use Rattle.std.specs.Prelude.{List, ℕ, [], ◌+◌, ◌≤◌, ◌<◌, ◌∷◌}
use Rattle.sq_place.specs.Ranks.{Somewhere}
use Rattle.sq_tagged.specs.TaggedStreams.{Tagged, Timed, below_bounds, lessened_by}
use Rattle.sq_value.specs.declared.Tuple.{Tuple}

-- at a distance from the drop: its marks with bounds that much less, and of a full list the tuples that are below them
abbrev pub marked : List Timed → ℕ → List Tuple → Tagged
marked ms d full = record { marks = lessened_by d ms; tuples = below_bounds (lessened_by d ms) full }

-- each mark is later than those before it
abbrev pub MarksRise : List Timed → Type 0
MarksRise [] = Unit {0}
MarksRise (m ∷ ms) = AllByRecursion (λ n. m.0 < n.0) ms × MarksRise ms

-- what holds of the time of each tuple
abbrev pub AllTimes : (ℕ → Type 0) → List Tuple → Type 0
AllTimes P xs = AllByRecursion (λ x. P x.time) xs

-- a tuple of the stream above stands at a time from this one to the distance after it
abbrev pub IsNear : List Tuple → ℕ → ℕ → Type 0
IsNear above d t = Somewhere (λ y. (t ≤ y.time) × (y.time ≤ t + d)) above
