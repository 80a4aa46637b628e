-- Which source releases next.
use Rattle.std.specs.Prelude.{◌≡◌, is_some, ℕ, zero, suc, ◌≤◌, ◌<◌, ◌&&◌, ◌||◌, Bool, true, false, List, [], ◌∷◌, length, Option, Some, None, slice_get}
use Rattle.sq_left.specs.Heads.{key_before}
use Rattle.sq_value.specs.declared.Tuple.{Tuple}
use Rattle.sq_replay.specs.RecordedTuples.{Recorded, first_recorded}
use Rattle.sq_flow.specs.Flows.{tuples_to_come, more_from}

-- the list begins at this time or later, if it begins
abbrev pub BeginsNotBefore : ℕ → List Tuple → Type 0
BeginsNotBefore time [] = Unit {0}
BeginsNotBefore time (x ∷ xs) = time ≤ x.time

abbrev pub BeginsAfter : ℕ → List Tuple → Type 0
BeginsAfter time [] = Unit {0}
BeginsAfter time (x ∷ xs) = time < x.time

-- the list begins, and no source of these begins before it; those of a lesser number begin after it
abbrev pub BeginsLeast : List Recorded → ℕ → List Tuple → Type 0
BeginsLeast sources source [] = ⊥
BeginsLeast sources source (x ∷ xs) =
    ((other : ℕ) → BeginsNotBefore x.time (tuples_to_come (slice_get sources other)))
    × ((other : ℕ) → other < source → BeginsAfter x.time (tuples_to_come (slice_get sources other)))

-- the source that has the tuple of the least time left, and of these the one of the least number
pub record IsNextSource (sources : List Recorded) (source : ℕ) : Type 0 where
  pub there : source < length sources
  pub least : BeginsLeast sources source (tuples_to_come (slice_get sources source))

-- of all numbers below one, and of some
abbrev pub all_below : (ℕ → Bool) → ℕ → Bool
all_below p zero = true
all_below p (suc n) = all_below p n && p n

abbrev pub some_below : (ℕ → Bool) → ℕ → Bool
some_below p zero = false
some_below p (suc n) = some_below p n || p n

-- a source that begins at this time, if it begins, comes before what may come of another from a tick on
abbrev pub first_before : Option ℕ → ℕ → ℕ → ℕ → Bool
first_before None source from other = false
first_before (Some time) source from other = key_before time source from other

-- what is known of some source comes before all that may come of this one from a tick on
abbrev pub is_preceded : List Recorded → ℕ → ℕ → Bool
is_preceded sources source from =
    some_below (λ other. first_before (first_recorded (tuples_to_come (slice_get sources other))) other from source) (length sources)

-- a source holds back no other: it begins, no more comes of it, or what may come is preceded
abbrev pub holds_none : List Recorded → ℕ → Option ℕ → Option ℕ → Bool
holds_none sources source (Some time) from = true
holds_none sources source None None = true
holds_none sources source None (Some from) = is_preceded sources source from

abbrev pub is_clear_of : List Recorded → List (Option ℕ) → ℕ → Bool
is_clear_of sources ahead source = holds_none sources source (first_recorded (tuples_to_come (slice_get sources source))) (more_from (slice_get ahead source))

-- the replay may go on, by what is known
abbrev pub is_clear : List Recorded → List (Option ℕ) → Bool
is_clear sources ahead = all_below (is_clear_of sources ahead) (length sources)

-- nothing is known of a source, and more may come of it
pub record IsWanted (sources : List Recorded) (ahead : List (Option ℕ)) (source : ℕ) : Type 0 where
  pub there : source < length sources
  pub bare : tuples_to_come (slice_get sources source) ≡ []
  pub more : is_some (more_from (slice_get ahead source)) ≡ true

-- the same as a test of the first of what is known, and of the tick from which on more may come
abbrev pub none_known : Option ℕ → Option ℕ → Bool
none_known None from = is_some from
none_known (Some time) from = false

abbrev pub is_wanted : List Recorded → List (Option ℕ) → ℕ → Bool
is_wanted sources ahead source = none_known (first_recorded (tuples_to_come (slice_get sources source))) (more_from (slice_get ahead source))
