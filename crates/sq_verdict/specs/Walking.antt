-- What a walk over a text knows behind some lines.
use Rattle.std.specs.Prelude.{◌≡◌, ℕ, ◌+◌, ◌<◌, Bool, true, List, if◌then◌else◌, Option, Some, None, slice_get, slice_index}
use Rattle.std.specs.List.{list_any}
use Rattle.std.specs.BTreeSet.{BTreeSet, Updates}
use Rattle.std.specs.Ordering.{nat_cmp}
use Rattle.sq_value.specs.declared.Tuple.{Tuple}
use Rattle.sq_words.specs.Lists.{max_by}
use Rattle.sq_wanted.specs.declared.wanted.Wanted.{Wanted}
use Rattle.sq_wanted.specs.Places.{IsAtPlace}
use Rattle.sq_verdict.specs.declared.verdict.AuditWhy.{AuditWhy}
use Rattle.sq_verdict.specs.declared.verdict.AuditWhy.TheVariants as why
use Rattle.sq_verdict.specs.Faults.{Lines, recorded, is_end, ends_with_end}

-- a number is put into one of the sets
abbrev pub IsPut : List (BTreeSet ℕ) → List (BTreeSet ℕ) → ℕ → ℕ → Type 0
IsPut old new w b = (s n : BTreeSet ℕ) → slice_get old w ≡ Some s → slice_get new w ≡ Some n → Updates nat_cmp s n b true

-- the numbers that each drop's next batch may begin with
abbrev pub IsMost : ℕ → List ℕ → List (List ℕ) → Type 0
IsMost drops most before = (w : ℕ) → w < drops → slice_index most w ≡ max_by (λ b. b + 1) (recorded drops before w)

-- each output is at its place
abbrev pub AreAtPlaces : (ℕ → List ℕ) → List (List Tuple) → List Wanted → List ℕ → List (List ℕ) → Type 0
AreAtPlaces record_at streams os places before =
    (i : ℕ) (o : Wanted) → slice_get os i ≡ Some o → IsAtPlace record_at streams o (slice_index places i) before

-- whether the last line was the end, and these, behind some lines without a fault
pub record IsAfter (record_at : ℕ → List ℕ) (streams : List (List Tuple)) (os : List Wanted) (drops : ℕ) (ended : Bool) (most places : List ℕ) (before : List (List ℕ)) : Type 0 where
  pub any : list_any is_end before ≡ ended
  pub last : ends_with_end before ≡ ended
  pub most_is : IsMost drops most before
  pub places_are : AreAtPlaces record_at streams os places before

-- the output with a number
abbrev pub found_in : Lines → Option ℕ → Option (List ℕ × List (List ℕ))
found_in shown None = None
found_in shown (Some i) = slice_get shown i

abbrev pub line_fault : Bool → Option AuditWhy
line_fault b = if b then None else Some why.Line
