-- How far each output has come in its stream.
use Rattle.std.proofs.Common.{◌≡◌, ◌≢◌, inl, inr, ℕ, zero, suc, ◌+◌, ◌||◌, Bool, true, false, not, List, [], ◌∷◌, ◌++◌, length, map, drop, refl, ap, sym, ◌∙◌, subst, append-nil, Some}
use Rattle.std.specs.Prelude.{slice_get, slice_index}
use Rattle.std.specs.List.{filter, list_any}
use Rattle.std.proofs.lemmas.Bool.{and_parts, cases_Bool, not-true, or_parts}
use Rattle.std.proofs.lemmas.List.Elements.{filter-append}
use Rattle.std.proofs.lemmas.Option.{same_Some}
use Rattle.sq_value.specs.declared.Tuple.{Tuple}
use Rattle.sq_words.specs.Lists.{same_bytes, are_distinct, contains_bytes}
use Rattle.sq_lines.specs.Classes.{Shown, first_field, is_of_class}
use Rattle.sq_wanted.specs.declared.wanted.Wanted.{Wanted}
use Rattle.sq_wanted.specs.Showing.{has_first, count_of, left_of, shown_one}
use Rattle.sq_verdict.specs.Wanting.{shown_of}
use Rattle.sq_verdict.specs.Walking.{AreAtPlaces}
use Rattle.sq_wanted.specs.Places.{IsAtPlace}
use Rattle.sq_wanted.proofs.Plain.{drop-at}
use Rattle.sq_words.proofs.Lists.{same_bytes_true, same_bytes_itself}

-- ---- some output

module _ (f : List ℕ × List (List ℕ) → Bool) (record_at : ℕ → List ℕ) (streams : List (List Tuple)) (os : List Wanted) (i : ℕ) (o : Wanted) (at : slice_get os i ≡ Some o)
    (so_far : list_any f (shown_of record_at streams os) ≡ list_any f (shown_of record_at streams (drop i os))) where
  this_first : list_any f (shown_of record_at streams os) ≡ (f (shown_one record_at streams o) || list_any f (shown_of record_at streams (drop (i + 1) os)))
  this_first = so_far ∙ ap (λ zs. list_any f (shown_of record_at streams zs)) (drop-at os i o at)

  pub any_here : true ≡ f (shown_one record_at streams o) → true ≡ list_any f (shown_of record_at streams os)
  any_here h = sym (this_first ∙ ap (λ t. t || list_any f (shown_of record_at streams (drop (i + 1) os))) (sym h))

  pub any_later : false ≡ f (shown_one record_at streams o) → list_any f (shown_of record_at streams os) ≡ list_any f (shown_of record_at streams (drop (i + 1) os))
  any_later h = this_first ∙ ap (λ t. t || list_any f (shown_of record_at streams (drop (i + 1) os))) (sym h)

-- ---- all outputs

count_miss : (before : List (List ℕ)) (line name : List ℕ) → has_first name line ≡ false → count_of (before ++ (line ∷ [])) name ≡ count_of before name
count_miss before line name h =
    let none : filter (is_of_class (Shown name)) (line ∷ []) ≡ [] = rw h refl in
    let all = filter-append (is_of_class (Shown name)) before (line ∷ []) ∙ ap (λ x. filter (is_of_class (Shown name)) before ++ x) none ∙ append-nil (filter (is_of_class (Shown name)) before) in
    ap (λ (x : List (List ℕ)). length x) all

-- a line of another output changes nothing
other_line : (record_at : ℕ → List ℕ) (streams : List (List Tuple)) (o : Wanted) (place : ℕ) (before : List (List ℕ)) (line : List ℕ) → has_first o.name line ≡ false
    → IsAtPlace record_at streams o place before → IsAtPlace record_at streams o place (before ++ (line ∷ []))
other_line record_at streams o place before line fails h = ap (λ k. drop k (left_of record_at streams o)) (count_miss before line o.name fails) ∙ h

abbrev pub names_of : List Wanted → List (List ℕ)
names_of os = map (λ o. o.name) os

-- a name that isn't among the names of outputs is none of theirs
other_name : (name : List ℕ) (os : List Wanted) (j : ℕ) (o : Wanted) → contains_bytes name (names_of os) ≡ false → slice_get os j ≡ Some o → same_bytes name o.name ≡ false
other_name name [] j o h at = cc
other_name name (y ∷ os) zero o h at =
    let same = same_Some y o at in
    subst (λ (z : Wanted). same_bytes name z.name ≡ false) same (or_parts (same_bytes name y.name) (contains_bytes name (names_of os)) h).0
other_name name (y ∷ os) (suc j) o h at = other_name name os j o (or_parts (same_bytes name y.name) (contains_bytes name (names_of os)) h).1 at

-- two outputs with one name are one output
one_name : (os : List Wanted) (i j : ℕ) (a b : Wanted) → are_distinct (names_of os) ≡ true → slice_get os i ≡ Some a → slice_get os j ≡ Some b → a.name ≡ b.name → i ≡ j
one_name [] i j a b d ia jb same = cc
one_name (y ∷ os) zero zero a b d ia jb same = refl
one_name (y ∷ os) zero (suc j) a b d ia jb same =
    let first = not-true (contains_bytes y.name (names_of os)) (and_parts (not (contains_bytes y.name (names_of os))) (are_distinct (names_of os)) d).0 in
    let other = other_name y.name os j b first jb in
    let e : y.name ≡ b.name = ap (λ (z : Wanted). z.name) (same_Some y a ia) ∙ same in
    let yes : same_bytes y.name b.name ≡ true = ap (λ n. same_bytes n b.name) e ∙ same_bytes_itself b.name in absurd (cc)
one_name (y ∷ os) (suc i) zero a b d ia jb same =
    let first = not-true (contains_bytes y.name (names_of os)) (and_parts (not (contains_bytes y.name (names_of os))) (are_distinct (names_of os)) d).0 in
    let other = other_name y.name os i a first ia in
    let e : y.name ≡ a.name = ap (λ (z : Wanted). z.name) (same_Some y b jb) ∙ sym same in
    let yes : same_bytes y.name a.name ≡ true = ap (λ n. same_bytes n a.name) e ∙ same_bytes_itself a.name in absurd (cc)
one_name (y ∷ os) (suc i) (suc j) a b d ia jb same =
    ap suc (one_name os i j a b (and_parts (not (contains_bytes y.name (names_of os))) (are_distinct (names_of os)) d).1 ia jb same)

-- a line of output i, of which the place alone has changed
pub places_after : (record_at : ℕ → List ℕ) (streams : List (List Tuple)) (os : List Wanted) (places now : List ℕ) (before : List (List ℕ)) (line : List ℕ) (i : ℕ) (o : Wanted)
    → are_distinct (names_of os) ≡ true → slice_get os i ≡ Some o → has_first o.name line ≡ true
    → IsAtPlace record_at streams o (slice_index now i) (before ++ (line ∷ [])) → ((j : ℕ) → j ≢ i → slice_index now j ≡ slice_index places j)
    → AreAtPlaces record_at streams os places before → AreAtPlaces record_at streams os now (before ++ (line ∷ []))
places_after record_at streams os places now before line i o d at first hit miss h j b there =
    elim (cases_Bool (has_first b.name line)) [
      | inl holds ↦
          let same : o.name ≡ b.name = sym (same_bytes_true (first_field line) o.name first) ∙ same_bytes_true (first_field line) b.name holds in
          let ij = one_name os i j o b d at there same in
          let both : o ≡ b = same_Some o b (sym at ∙ ap (slice_get os) ij ∙ there) in
          subst (λ k. IsAtPlace record_at streams b (slice_index now k) (before ++ (line ∷ []))) ij (subst (λ (z : Wanted). IsAtPlace record_at streams z (slice_index now i) (before ++ (line ∷ []))) both hit)
      | inr fails ↦
          let apart : j ≢ i = λ e.
          (let both : o ≡ b = same_Some o b (sym at ∙ ap (slice_get os) (sym e) ∙ there) in
          let yes : has_first b.name line ≡ true = subst (λ (z : Wanted). has_first z.name line ≡ true) both first in absurd (cc)) in
          other_line record_at streams b (slice_index now j) before line fails (subst (λ k. IsAtPlace record_at streams b k before) (sym (miss j apart)) (h j b there))
    ]

-- a line of no output
pub places_same : (record_at : ℕ → List ℕ) (streams : List (List Tuple)) (os : List Wanted) (places : List ℕ) (before : List (List ℕ)) (line : List ℕ)
    → list_any (λ (o : Wanted). has_first o.name line) os ≡ false → AreAtPlaces record_at streams os places before → AreAtPlaces record_at streams os places (before ++ (line ∷ []))
places_same record_at streams os places before line none h j b there = other_line record_at streams b (slice_index places j) before line (by os j b none there) (h j b there)
  where
    by : (xs : List Wanted) (j : ℕ) (b : Wanted) → list_any (λ (o : Wanted). has_first o.name line) xs ≡ false → slice_get xs j ≡ Some b → has_first b.name line ≡ false
    by [] j b none there = cc
    by (x ∷ xs) zero b none there = subst (λ (z : Wanted). has_first z.name line ≡ false) (same_Some x b there) (or_parts (has_first x.name line) (list_any (λ (o : Wanted). has_first o.name line) xs) none).0
    by (x ∷ xs) (suc j) b none there = by xs j b (or_parts (has_first x.name line) (list_any (λ (o : Wanted). has_first o.name line) xs) none).1 there
