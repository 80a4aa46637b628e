-- How far an output has come in its stream.
use Rattle.std.proofs.Common.{◌≡◌, ℕ, zero, suc, ◌+◌, ◌<◌, Bool, true, false, List, [], ◌∷◌, ◌++◌, length, map, drop, refl, ap, sym, ◌∙◌, arith, subst, Option, Some, None}
use Rattle.std.specs.Prelude.{nat_lt, slice_get, option_map}
use Rattle.std.specs.List.{filter}
use Rattle.std.proofs.lemmas.Bool.Decides.{nat_tests}
use Rattle.std.proofs.lemmas.List.{drop-drop, length-append}
use Rattle.std.proofs.lemmas.List.Elements.{filter-append}
use Rattle.std.proofs.lemmas.Option.{slice_get-map}
use Rattle.sq_value.specs.declared.Tuple.{Tuple}
use Rattle.sq_words.specs.Lists.{nth}
use Rattle.sq_lines.specs.LineTexts.{output_line}
use Rattle.sq_lines.specs.Classes.{Shown, is_of_class}
use Rattle.sq_wanted.specs.declared.wanted.Wanted.{Wanted}
use Rattle.sq_wanted.specs.Showing.{has_first, count_of, is_next, is_line_at, is_left, left_of, shown_one, is_line_of}
use Rattle.sq_wanted.specs.Places.{IsAtPlace, Skips}
use Rattle.sq_wanted.proofs.Plain.{get-drop, drop-at, drop-past}

-- ---- what is left of a stream from a place on

module _ {X : Type 0} (t : X → Bool) (xs : List X) (at : ℕ) where
  none_from : slice_get xs at ≡ None → filter t (drop at xs) ≡ []
  none_from h = ap (filter t) (drop-past xs at h)

  one_from : (x : X) → slice_get xs at ≡ Some x → t x ≡ true → filter t (drop at xs) ≡ x ∷ filter t (drop (at + 1) xs)
  one_from x h holds = ap (filter t) (drop-at xs at x h) ∙ passes x (drop (at + 1) xs) holds
    where
      passes : (y : X) (ys : List X) → t y ≡ true → filter t (y ∷ ys) ≡ y ∷ filter t ys
      passes y ys e = rw e refl

  -- where something stands at the place it passes, and so is the first that is left
  first_from : ((x : X) → slice_get xs at ≡ Some x → t x ≡ true) → slice_get (filter t (drop at xs)) 0 ≡ slice_get xs at
  first_from stands = by (slice_get xs at) refl
    where
      by : (o : Option X) → slice_get xs at ≡ o → slice_get (filter t (drop at xs)) 0 ≡ slice_get xs at
      by None e = ap (λ ys. slice_get ys 0) (none_from e) ∙ sym e
      by (Some x) e = ap (λ ys. slice_get ys 0) (one_from x e (stands x e)) ∙ sym e

-- ---- an output at a place

module _ (record_at : ℕ → List ℕ) (streams : List (List Tuple)) (o : Wanted) (place at : ℕ) (before : List (List ℕ)) (tuples : List Tuple) (e : tuples ≡ nth streams o.stream)
    (here : IsAtPlace record_at streams o place before) (found : Skips (is_left record_at o.above) tuples place at) where
  abbrev t : Tuple → Bool
  t = is_left record_at o.above

  skips : Skips t (nth streams o.stream) place at
  skips = subst (λ zs. Skips t zs place at) e found

  abbrev xs : List Tuple
  xs = nth streams o.stream

  abbrev ys : List Tuple
  ys = left_of record_at streams o

  abbrev count : ℕ
  count = count_of before o.name

  rest_is : drop count ys ≡ filter t (drop at xs)
  rest_is = here ∙ skips.same

  -- what it is to show next
  next_tuple : slice_get ys count ≡ slice_get xs at
  next_tuple = sym (get-drop ys count) ∙ ap (λ zs. slice_get zs 0) rest_is ∙ first_from t xs at skips.stands

  line_at : (name line : List ℕ) (x : Option Tuple) → is_line_at (option_map (output_line name) x) line ≡ is_line_of name x line
  line_at name line None = refl
  line_at name line (Some x) = refl

  pub next_is : (line : List ℕ) → is_line_of o.name (slice_get tuples at) line ≡ is_next before (shown_one record_at streams o) line
  next_is line =
      ap (λ zs. is_line_of o.name (slice_get zs at) line) e
      ∙ sym (ap (λ x. is_line_at x line) (slice_get-map (output_line o.name) ys count ∙ ap (option_map (output_line o.name)) next_tuple)
      ∙ line_at o.name line (slice_get xs at))

  -- behind the line of the tuple there
  pub place_more : (line : List ℕ) → at < length tuples → has_first o.name line ≡ true → IsAtPlace record_at streams o (at + 1) (before ++ (line ∷ []))
  place_more line low first = by (slice_get xs at) refl
    where
      inside : at < length xs
      inside = subst (λ zs. at < length zs) e low

      one_line : count_of (before ++ (line ∷ [])) o.name ≡ count + 1
      one_line =
          let one : filter (is_of_class (Shown o.name)) (line ∷ []) ≡ line ∷ [] = rw first refl in
          let all = filter-append (is_of_class (Shown o.name)) before (line ∷ []) ∙ ap (λ x. filter (is_of_class (Shown o.name)) before ++ x) one in
          ap (λ (x : List (List ℕ)). length x) all ∙ length-append (filter (is_of_class (Shown o.name)) before) (line ∷ [])

      there : (zs : List Tuple) (i : ℕ) → i < length zs → slice_get zs i ≡ None → ⊥
      there [] i lt e = omega (arith, lt)
      there (z ∷ zs) zero lt e = cc
      there (z ∷ zs) (suc i) lt e = there zs i (omega (arith, lt)) e

      by : (x : Option Tuple) → slice_get xs at ≡ x → drop (count_of (before ++ (line ∷ [])) o.name) ys ≡ filter t (drop (at + 1) xs)
      by None is = absurd (there xs at inside is)
      by (Some x) is = ap (λ k. drop k ys) one_line ∙ sym (drop-drop 1 count ys) ∙ ap (drop 1) (rest_is ∙ one_from t xs at x is (skips.stands x is))

  -- whether it is still to show something
  size_of : (zs : List Tuple) (k : ℕ) → drop k zs ≡ [] → nat_lt k (length zs) ≡ false
  size_of [] k is = grind (arith, nat_tests)
  size_of (z ∷ zs) zero is = cc
  size_of (z ∷ zs) (suc k) is = let more = size_of zs k is in grind (arith, nat_tests, more)

  size_more : (zs : List Tuple) (k : ℕ) (z : Tuple) (more : List Tuple) → drop k zs ≡ z ∷ more → nat_lt k (length zs) ≡ true
  size_more [] zero z more is = cc
  size_more [] (suc k) z more is = cc
  size_more (y ∷ zs) zero z more is = grind (arith, nat_tests)
  size_more (y ∷ zs) (suc k) z more is = let later = size_more zs k z more is in grind (arith, nat_tests, later)

  mapped : {X Y : Type 0} (f : X → Y) (zs : List X) → length (map f zs) ≡ length zs
  mapped f [] = refl
  mapped f (z ∷ zs) = ap suc (mapped f zs)

  pub more_is : nat_lt at (length tuples) ≡ nat_lt count (length (shown_one record_at streams o).1)
  more_is = ap (λ zs. nat_lt at (length zs)) e ∙ by (slice_get xs at) refl ∙ ap (nat_lt count) (sym (mapped (output_line o.name) ys))
    where
      by : (x : Option Tuple) → slice_get xs at ≡ x → nat_lt at (length xs) ≡ nat_lt count (length ys)
      by None is = size_of xs at (drop-past xs at is) ∙ sym (size_of ys count (rest_is ∙ none_from t xs at is))
      by (Some x) is = size_more xs at x (drop (at + 1) xs) (drop-at xs at x is) ∙ sym (size_more ys count x (filter t (drop (at + 1) xs)) (rest_is ∙ one_from t xs at x is (skips.stands x is)))
