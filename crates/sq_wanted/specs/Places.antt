-- How far an output has come in its stream.
use Rattle.std.specs.Prelude.{◌≡◌, ℕ, Bool, true, List, drop, Some, slice_get}
use Rattle.std.specs.List.{filter}
use Rattle.std.specs.BTreeSet.{BTreeSet, contains}
use Rattle.std.specs.Ordering.{nat_cmp}
use Rattle.sq_words.specs.Lists.{contains_number, nth}
use Rattle.sq_value.specs.declared.Tuple.{Tuple}
use Rattle.sq_wanted.specs.declared.wanted.Wanted.{Wanted}
use Rattle.sq_wanted.specs.Showing.{count_of, is_left, left_of}

-- a set has these numbers
abbrev pub HasNumbers : BTreeSet ℕ → List ℕ → Type 0
HasNumbers s bs = (b : ℕ) → contains nat_cmp s b ≡ contains_number bs b

-- the sets have what is recorded of each drop
abbrev pub HoldRecord : List (BTreeSet ℕ) → (ℕ → List ℕ) → Type 0
HoldRecord sets record_at = (w : ℕ) (s : BTreeSet ℕ) → slice_get sets w ≡ Some s → HasNumbers s (record_at w)

-- the first place from `from` on at which something stands that passes, or none does from there on
pub record Skips {X : Type 0} (t : X → Bool) (xs : List X) (from to : ℕ) : Type 0 where
  pub same : filter t (drop from xs) ≡ filter t (drop to xs)
  pub stands : (x : X) → slice_get xs to ≡ Some x → t x ≡ true

-- what an output is still to show behind some lines is what is left of its stream from a place on
abbrev pub IsAtPlace : (ℕ → List ℕ) → List (List Tuple) → Wanted → ℕ → List (List ℕ) → Type 0
IsAtPlace record_at streams o place before =
    drop (count_of before o.name) (left_of record_at streams o) ≡ filter (is_left record_at o.above) (drop place (nth streams o.stream))
