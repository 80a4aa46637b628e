-- Outputs by their names, and drops by their numbers: the lines of one are those of the one place that has its name or number.
use Rattle.std.proofs.Common.{◌≡◌, ◌≢◌, ◌⊎◌, inl, inr, ℕ, zero, suc, ◌+◌, ◌<◌, ◌≤◌, ◌^◌, Bool, true, false, not, List, [], ◌∷◌, ◌++◌, length, refl, ap, sym, ◌∙◌, subst, arith, append-nil, Some}
use Rattle.std.specs.Prelude.{◌==◌, map, if◌then◌else◌, slice_get}
use Rattle.std.specs.Fmt.{decimal}
use Rattle.std.specs.List.{filter, flat_map, list_any, range_with_len, zip}
use Rattle.std.proofs.lemmas.Bool.{eqb-true, eqb-false, or_right, false_from_ne_true, or_left}
use Rattle.std.proofs.lemmas.Fmt.{decimal_injective}
use Rattle.sq_words.specs.Lists.{are_distinct, contains_bytes, numbers_to, same_bytes}
use Rattle.sq_lines.specs.LineTexts.{output_line}
use Rattle.sq_net.specs.declared.Output.{Output}
use Rattle.sq_due.specs.Due.{Answer, dropped_from, shown_at_output}
use Rattle.sq_words.proofs.Bools.{and_true}
use Rattle.sq_words.proofs.Lists.{same_bytes_true, same_bytes_itself}

named_at : (os : List Output) (o : ℕ) (out : Output) → slice_get os o ≡ Some out → contains_bytes out.name (map (λ x. x.name) os) ≡ true
named_at [] o out at = absurd (cc)
named_at (x ∷ os) zero out at =
    let is : x ≡ out = cc in
    or_left (same_bytes out.name x.name) (contains_bytes out.name (map (λ y. y.name) os)) (ap (λ (y : Output). same_bytes out.name y.name) is ∙ same_bytes_itself out.name)
named_at (x ∷ os) (suc o) out at = or_right (same_bytes out.name x.name) (contains_bytes out.name (map (λ y. y.name) os)) (named_at os o out at)

none_named : (os : List Output) (x out : Output) (o : ℕ) → are_distinct (map (λ y. y.name) (x ∷ os)) ≡ true → slice_get os o ≡ Some out → x.name ≡ out.name → ⊥
none_named os x out o d at same =
    let here : contains_bytes x.name (map (λ y. y.name) os) ≡ true = subst (λ w. contains_bytes w (map (λ y. y.name) os) ≡ true) (sym same) (named_at os o out at) in
    let other = (and_true (not (contains_bytes x.name (map (λ y. y.name) os))) (are_distinct (map (λ y. y.name) os)) d).0 in
    let both : not true ≡ true = ap not (sym here) ∙ other in cc

-- where no name stands twice, one name stands at one place
one_place : (os : List Output) (p o : ℕ) (q out : Output) → are_distinct (map (λ x. x.name) os) ≡ true → slice_get os p ≡ Some q → slice_get os o ≡ Some out
    → q.name ≡ out.name → p ≡ o
one_place [] p o q out d at at' same = absurd (cc)
one_place (x ∷ os) zero zero q out d at at' same = refl
one_place (x ∷ os) zero (suc o) q out d at at' same =
    let is : x ≡ q = cc in absurd (none_named os x out o d at' (ap (λ (y : Output). y.name) is ∙ same))
one_place (x ∷ os) (suc p) zero q out d at at' same =
    let is : x ≡ out = cc in absurd (none_named os x q p d at (ap (λ (y : Output). y.name) is ∙ sym same))
one_place (x ∷ os) (suc p) (suc o) q out d at at' same =
    ap suc (one_place os p o q out (and_true (not (contains_bytes x.name (map (λ y. y.name) os))) (are_distinct (map (λ y. y.name) os)) d).1 at at' same)

-- the test of a name is the test of the place
module _ (os : List Output) (p o : ℕ) (q out : Output) (distinct : are_distinct (map (λ x. x.name) os) ≡ true) (at : slice_get os p ≡ Some q) (there : slice_get os o ≡ Some out) where
  pub name_test : (t : Bool) → (p == o) ≡ t → same_bytes q.name out.name ≡ t
  name_test true e =
      let same : q ≡ out = let both : Some q ≡ Some out = sym at ∙ ap (slice_get os) (eqb-true p o e) ∙ there in cc in
      ap (λ (y : Output). same_bytes y.name out.name) same ∙ same_bytes_itself out.name
  name_test false e =
      false_from_ne_true (same_bytes q.name out.name) (λ h. eqb-false p o e (one_place os p o q out distinct at there (same_bytes_true q.name out.name h)))

abbrev Outputs : Type 0
Outputs = List (List ℕ × List (List ℕ))

abbrev picked : List ℕ → Outputs → List (List ℕ)
picked name os = flat_map (λ x. x.1) (filter (λ x. same_bytes x.0 name) os)

picked_one : (t : Bool) (name : List ℕ) (x : List ℕ × List (List ℕ)) (os : Outputs) → same_bytes x.0 name ≡ t
    → picked name (x ∷ os) ≡ (if t then x.1 else []) ++ picked name os
picked_one true name x os e = rw e refl
picked_one false name x os e = rw e refl

module _ (a : Answer) where
  -- of the outputs with this name none has lines
  none_picked : (os : List Output) (ss : List ℕ) (name : List ℕ) → contains_bytes name (map (λ x. x.name) os) ≡ false → picked name (map (shown_at_output a) (zip os ss)) ≡ []
  none_picked [] ss name none = refl
  none_picked (x ∷ os) [] name none = refl
  none_picked (x ∷ os) (s ∷ ss) name none =
      picked_one false name (shown_at_output a (x, s)) (map (shown_at_output a) (zip os ss))
      (false_from_ne_true (same_bytes x.name name)
      (λ h. let e : same_bytes name x.name ≡ true = ap (same_bytes name) (same_bytes_true x.name name h) ∙ same_bytes_itself name in
      let some = or_left (same_bytes name x.name) (contains_bytes name (map (λ y. y.name) os)) e in
      let both : true ≡ false = sym some ∙ none in cc))
      ∙ none_picked os ss name
      (false_from_ne_true (contains_bytes name (map (λ y. y.name) os))
      (λ h. let some = or_right (same_bytes name x.name) (contains_bytes name (map (λ y. y.name) os)) h in
      let both : true ≡ false = sym some ∙ none in cc))

  -- the lines of the outputs with a name are those of the one that has it
  pub picked_at : (os : List Output) (ss : List ℕ) (o s : ℕ) (out : Output) → are_distinct (map (λ x. x.name) os) ≡ true → slice_get os o ≡ Some out → slice_get ss o ≡ Some s
      → picked out.name (map (shown_at_output a) (zip os ss)) ≡ map (output_line out.name) (a.tuples s)
  picked_at [] ss o s out d at there = absurd (cc)
  picked_at (x ∷ os) [] o s out d at there = absurd (cc)
  picked_at (x ∷ os) (r ∷ ss) zero s out d at there =
      let is : x ≡ out = cc in
      let same : r ≡ s = cc in
      let others = false_from_ne_true (contains_bytes x.name (map (λ y. y.name) os))
      (λ h. let other = (and_true (not (contains_bytes x.name (map (λ y. y.name) os))) (are_distinct (map (λ y. y.name) os)) d).0 in
      let both : not true ≡ true = ap not (sym h) ∙ other in cc) in
      subst (λ (y : Output). picked y.name (map (shown_at_output a) (zip (x ∷ os) (r ∷ ss))) ≡ map (output_line y.name) (a.tuples s)) is
      (picked_one true x.name (shown_at_output a (x, r)) (map (shown_at_output a) (zip os ss)) (same_bytes_itself x.name)
      ∙ ap (λ ls. map (output_line x.name) (a.tuples r) ++ ls) (none_picked os ss x.name others)
      ∙ append-nil (map (output_line x.name) (a.tuples r))
      ∙ ap (λ k. map (output_line x.name) (a.tuples k)) same)
  picked_at (x ∷ os) (r ∷ ss) (suc o) s out d at there =
      picked_one false out.name (shown_at_output a (x, r)) (map (shown_at_output a) (zip os ss))
      (false_from_ne_true (same_bytes x.name out.name) (λ h. none_named os x out o d at (same_bytes_true x.name out.name h)))
      ∙ picked_at os ss o s out (and_true (not (contains_bytes x.name (map (λ y. y.name) os))) (are_distinct (map (λ y. y.name) os)) d).1 at there

-- an output with a name, and the stream that it shows
pub record HasOutput (os : List Output) (ss : List ℕ) (name : List ℕ) : Type 0 where
  pub at : ℕ
  pub stream : ℕ
  pub output : Output
  pub there : slice_get os at ≡ Some output
  pub shows : slice_get ss at ≡ Some stream
  pub same : output.name ≡ name

output_first : (t : Bool) (a : Answer) (x : Output) (r : ℕ) (os : List Output) (ss : List ℕ) (name : List ℕ) → same_bytes x.name name ≡ t
    → (list_any (λ y. same_bytes y.0 name) (map (shown_at_output a) (zip os ss)) ≡ true → HasOutput os ss name)
    → list_any (λ y. same_bytes y.0 name) (map (shown_at_output a) (zip (x ∷ os) (r ∷ ss))) ≡ true → HasOutput (x ∷ os) (r ∷ ss) name
output_first true a x r os ss name e more h = record { at = 0; stream = r; output = x; there = refl; shows = refl; same = same_bytes_true x.name name e }
output_first false a x r os ss name e more h =
    let m = more (rw e at h) in record { at = suc m.at; stream = m.stream; output = m.output; there = m.there; shows = m.shows; same = m.same }

pub output_of : (a : Answer) (os : List Output) (ss : List ℕ) (name : List ℕ) → list_any (λ y. same_bytes y.0 name) (map (shown_at_output a) (zip os ss)) ≡ true
    → HasOutput os ss name
output_of a [] ss name h = absurd (cc)
output_of a (x ∷ os) [] name h = absurd (cc)
output_of a (x ∷ os) (r ∷ ss) name h = output_first (same_bytes x.name name) a x r os ss name refl (output_of a os ss name) h

-- each output that is there is one of those that are due
pub due_at : (a : Answer) (os : List Output) (ss : List ℕ) (o : ℕ) (out : Output) → length ss ≡ length os → slice_get os o ≡ Some out
    → list_any (λ y. same_bytes out.name y.0) (map (shown_at_output a) (zip os ss)) ≡ true
due_at a [] ss o out even at = absurd (cc)
due_at a (x ∷ os) [] o out even at = absurd (omega (arith, even))
due_at a (x ∷ os) (r ∷ ss) zero out even at =
    let is : x ≡ out = cc in
    or_left (same_bytes out.name x.name) (list_any (λ y. same_bytes out.name y.0) (map (shown_at_output a) (zip os ss)))
    (ap (λ (y : Output). same_bytes out.name y.name) is ∙ same_bytes_itself out.name)
due_at a (x ∷ os) (r ∷ ss) (suc o) out even at =
    or_right (same_bytes out.name x.name) (list_any (λ y. same_bytes out.name y.0) (map (shown_at_output a) (zip os ss)))
    (due_at a os ss o out (omega (arith, even)) at)

-- what stands among the numbers from one on
number_from : (from many at s : ℕ) → slice_get (range_with_len from many) at ≡ Some s → s ≡ from + at
number_from from zero at s e = absurd (cc)
number_from from (suc many) zero s e = let is : from ≡ s = cc in omega (arith, is)
number_from from (suc many) (suc at) s e = omega (arith, number_from (from + 1) many at s e)

pub number_at : (many at s : ℕ) → slice_get (numbers_to many) at ≡ Some s → s ≡ at
number_at many at s e = omega (arith, number_from 0 many at s e)

-- whether a drop has a number, in decimal
abbrev pub is_numbered : ℕ → ℕ → Bool
is_numbered w v = same_bytes (decimal v) (decimal w)

-- of the drops below a number one has this number, or none has
pub find_drop : (w many : ℕ) → ((v : ℕ) × (v < many) × (is_numbered w v ≡ true)) ⊎ ((v : ℕ) → v < many → is_numbered w v ≡ false)
find_drop w zero = inr (λ v low. absurd (omega (arith, low)))
find_drop w (suc many) = last (is_numbered w many) refl (find_drop w many)
  where
    last : (b : Bool) → is_numbered w many ≡ b → ((v : ℕ) × (v < many) × (is_numbered w v ≡ true)) ⊎ ((v : ℕ) → v < many → is_numbered w v ≡ false)
        → ((v : ℕ) × (v < suc many) × (is_numbered w v ≡ true)) ⊎ ((v : ℕ) → v < suc many → is_numbered w v ≡ false)
    last true e rest = inl (many, omega arith, e)
    last false e (inl (v, low, is)) = inl (v, omega (arith, low), is)
    last false e (inr none) = inr (λ v low. here v low (v == many) refl)
      where
        here : (v : ℕ) → v < suc many → (t : Bool) → (v == many) ≡ t → is_numbered w v ≡ false
        here v low true same = ap (is_numbered w) (eqb-true v many same) ∙ e
        here v low false same = let differ = eqb-false v many same in none v (omega (arith, low, differ))

-- two small numbers that are written alike are the same
pub same_number : (w u v : ℕ) → u < 2 ^ 64 → v < 2 ^ 64 → is_numbered w u ≡ true → is_numbered w v ≡ true → u ≡ v
same_number w u v few many e f = decimal_injective u v few many (same_bytes_true (decimal u) (decimal w) e ∙ sym (same_bytes_true (decimal v) (decimal w) f))

module _ (a : Answer) (w : ℕ) where
  abbrev pub numbered : List ℕ → List (List ℕ)
  numbered vs = flat_map (λ x. x.1) (filter (λ x. is_numbered w x.0) (map (dropped_from a) vs))

  numbered_one : (t : Bool) (v : ℕ) (vs : List ℕ) → is_numbered w v ≡ t → numbered (v ∷ vs) ≡ (if t then (dropped_from a v).1 else []) ++ numbered vs
  numbered_one true v vs e = rw e refl
  numbered_one false v vs e = rw e refl

  none_from : (from many : ℕ) → ((v : ℕ) → from ≤ v → v < from + many → is_numbered w v ≡ false) → numbered (range_with_len from many) ≡ []
  none_from from zero none = refl
  none_from from (suc many) none =
      numbered_one false from (range_with_len (from + 1) many) (none from (omega arith) (omega arith))
      ∙ none_from (from + 1) many (λ v least low. none v (omega (arith, least)) (omega (arith, low)))

  pub none_numbered : (many : ℕ) → ((v : ℕ) → v < many → is_numbered w v ≡ false) → numbered (numbers_to many) ≡ []
  none_numbered many none = none_from 0 many (λ v least low. none v (omega (arith, low)))

  one_from : (v from many : ℕ) → from ≤ v → v < from + many → is_numbered w v ≡ true → ((u : ℕ) → u < from + many → is_numbered w u ≡ true → u ≡ v)
      → numbered (range_with_len from many) ≡ (dropped_from a v).1
  one_from v from zero least low is alone = absurd (omega arith)
  one_from v from (suc many) least low is alone =
      by (is_numbered w from) refl
      (λ differ. one_from v (from + 1) many (omega (arith, least, differ)) (omega (arith, low)) is (λ u lower h. alone u (omega (arith, lower)) h))
    where
      by : (t : Bool) → is_numbered w from ≡ t → (from ≢ v → numbered (range_with_len (from + 1) many) ≡ (dropped_from a v).1)
          → numbered (range_with_len from (suc many)) ≡ (dropped_from a v).1
      by true e more =
          let same : from ≡ v = alone from (omega arith) e in
          numbered_one true from (range_with_len (from + 1) many) e
          ∙ ap (λ ls. (dropped_from a from).1 ++ ls)
          (none_from (from + 1) many (λ u later lower. false_from_ne_true (is_numbered w u) (λ h. let other = alone u (omega (arith, lower)) h in absurd (omega (arith, other, same, later)))))
          ∙ append-nil (dropped_from a from).1
          ∙ ap (λ k. (dropped_from a k).1) same
      by false e more =
          numbered_one false from (range_with_len (from + 1) many) e
          ∙ more (λ same. let both : true ≡ false = sym is ∙ ap (is_numbered w) (sym same) ∙ e in cc)

  -- the lines of the drops with a number are those of the one that has it
  pub one_numbered : (v many : ℕ) → v < many → many < 2 ^ 64 → is_numbered w v ≡ true → numbered (numbers_to many) ≡ (dropped_from a v).1
  one_numbered v many low few is =
      one_from v 0 many (omega arith) (omega (arith, low)) is (λ u lower h. same_number w u v (omega (arith, lower, few)) (omega (arith, low, few)) h is)

listed_from : (a : Answer) (v from many : ℕ) → from ≤ v → v < from + many → list_any (λ x. is_numbered x.0 v) (map (dropped_from a) (range_with_len from many)) ≡ true
listed_from a v from zero least low = absurd (omega arith)
listed_from a v from (suc many) least low =
    by (v == from) refl (λ differ. listed_from a v (from + 1) many (omega (arith, least, differ)) (omega (arith, low)))
  where
    by : (t : Bool) → (v == from) ≡ t → (v ≢ from → list_any (λ x. is_numbered x.0 v) (map (dropped_from a) (range_with_len (from + 1) many)) ≡ true)
        → list_any (λ x. is_numbered x.0 v) (map (dropped_from a) (range_with_len from (suc many))) ≡ true
    by true e more =
        or_left (is_numbered from v) (list_any (λ x. is_numbered x.0 v) (map (dropped_from a) (range_with_len (from + 1) many)))
        (ap (λ k. is_numbered k v) (sym (eqb-true v from e)) ∙ same_bytes_itself (decimal v))
    by false e more = or_right (is_numbered from v) (list_any (λ x. is_numbered x.0 v) (map (dropped_from a) (range_with_len (from + 1) many))) (more (eqb-false v from e))

-- each drop that is there is one of those that are due
pub number_listed : (a : Answer) (v many : ℕ) → v < many → list_any (λ x. is_numbered x.0 v) (map (dropped_from a) (numbers_to many)) ≡ true
number_listed a v many low = listed_from a v 0 many (omega arith) (omega (arith, low))
