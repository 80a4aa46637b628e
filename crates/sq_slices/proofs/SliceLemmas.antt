-- Slices of lists: a slice of a wider one, and one behind the other.
use Rattle.std.proofs.Common.{◌≡◌, ℕ, ◌≤◌, ◌<◌, leb, ltb, Bool, true, false, cond, ◌&&◌, List, [], ◌∷◌, ◌++◌, refl, ap, sym, ◌∙◌, arith}
use Rattle.std.proofs.lemmas.Bool.Decides.{nat_tests}
use Rattle.std.specs.List.{AllByRecursion}
use Rattle.sq_value.specs.declared.Tuple.{Tuple}
use Rattle.sq_lists.specs.WindowParts.{TimesNotFalling}
use Rattle.sq_lists.proofs.WindowLemmas.{all-later}
use Rattle.sq_shard.proofs.Lists.{filter-under, filter-same, filter-none}
use Rattle.sq_words.proofs.Alls.{all_weaker}
use Rattle.sq_slices.specs.Slices.{in_slice, slice, AgreeIn}

inside : (lo a b hi t : ℕ) → lo ≤ a → b ≤ hi → (leb a t && ltb t b) ≡ true → (leb lo t && ltb t hi) ≡ true
inside lo a b hi t low high h = grind (arith, nat_tests)

pub slice-slice : (lo hi a b : ℕ) → lo ≤ a → b ≤ hi → (xs : List Tuple) → slice a b (slice lo hi xs) ≡ slice a b xs
slice-slice lo hi a b low high xs = filter-under (in_slice lo hi) (in_slice a b) (λ x h. inside lo a b hi x.time low high h) xs

pub narrower : (lo hi a b : ℕ) → lo ≤ a → b ≤ hi → (xs ys : List Tuple) → AgreeIn lo hi xs ys → AgreeIn a b xs ys
narrower lo hi a b low high xs ys e = sym (slice-slice lo hi a b low high xs) ∙ ap (slice a b) e ∙ slice-slice lo hi a b low high ys

-- what gives in a slice what it gives for a wider one
pub through : (lo hi a b : ℕ) (f g : List Tuple → List Tuple) → ((xs : List Tuple) → slice a b (f xs) ≡ g (slice lo hi xs)) → (xs ys : List Tuple) → AgreeIn lo hi xs ys → AgreeIn a b (f xs) (f ys)
through lo hi a b f g h xs ys e = h xs ∙ ap g e ∙ sym (h ys)

-- ---- one behind the other

not-before : (a b t : ℕ) → b ≤ t → (leb a t && ltb t b) ≡ false
not-before a b t h = grind (arith, nat_tests)

not-behind : (b c t : ℕ) → t < b → (leb b t && ltb t c) ≡ false
not-behind b c t h = grind (arith, nat_tests)

same-before : (a b c t : ℕ) → b ≤ c → t < b → (leb a t && ltb t b) ≡ (leb a t && ltb t c)
same-before a b c t le h = ap (λ z. leb a t && z) (both (ltb t b) (ltb t c) refl refl)
  where
    both : (x y : Bool) → ltb t b ≡ x → ltb t c ≡ y → x ≡ y
    both true true e f = refl
    both true false e f = absurd (no b c t le e f)
      where
        no : (b c t : ℕ) → b ≤ c → ltb t b ≡ true → ltb t c ≡ false → ⊥
        no b c t le e f = grind (arith, nat_tests)
    both false y e f = absurd (no b t h e)
      where
        no : (b t : ℕ) → t < b → ltb t b ≡ false → ⊥
        no b t h e = grind (arith, nat_tests)

same-behind : (a b c t : ℕ) → a ≤ b → b ≤ t → (leb b t && ltb t c) ≡ (leb a t && ltb t c)
same-behind a b c t le h = ap (λ z. z && ltb t c) (is b t h ∙ sym (is a t (omega (arith, le, h))))
  where
    is : (a t : ℕ) → a ≤ t → leb a t ≡ true
    is a t h = grind (arith, nat_tests)

pub seam : (a b c : ℕ) → a ≤ b → b ≤ c → (least : ℕ) (xs : List Tuple) → TimesNotFalling least xs → slice a b xs ++ slice b c xs ≡ slice a c xs
seam a b c ab bc least [] up = refl
seam a b c ab bc least (x ∷ xs) up = by (leb b x.time) refl (seam a b c ab bc x.time xs up.1)
  where
    at-least : (b t : ℕ) → leb b t ≡ true → b ≤ t
    at-least b t h = grind (arith, nat_tests)

    less : (b t : ℕ) → leb b t ≡ false → t < b
    less b t h = grind (arith, nat_tests)

    front : (d : Bool) → cond d (x ∷ slice a b xs) (slice a b xs) ++ slice b c xs ≡ cond d (x ∷ slice a b xs ++ slice b c xs) (slice a b xs ++ slice b c xs)
    front true = refl
    front false = refl

    by : (d : Bool) → leb b x.time ≡ d → slice a b xs ++ slice b c xs ≡ slice a c xs → slice a b (x ∷ xs) ++ slice b c (x ∷ xs) ≡ slice a c (x ∷ xs)
    by true e more =
        let late = at-least b x.time e in
        let all : AllByRecursion (λ (y : Tuple). b ≤ y.time) (x ∷ xs) = (late, all_weaker (λ (y : Tuple). x.time ≤ y.time) (λ (y : Tuple). b ≤ y.time) (λ y h. omega (arith, late, h)) xs (all-later x.time xs up.1)) in
        ap (λ l. l ++ slice b c (x ∷ xs)) (filter-none (in_slice a b) (x ∷ xs) (all_weaker (λ (y : Tuple). b ≤ y.time) (λ y. in_slice a b y ≡ false) (λ y h. not-before a b y.time h) (x ∷ xs) all))
        ∙ filter-same (in_slice b c) (in_slice a c) (x ∷ xs) (all_weaker (λ (y : Tuple). b ≤ y.time) (λ y. in_slice b c y ≡ in_slice a c y) (λ y h. same-behind a b c y.time ab h) (x ∷ xs) all)
    by false e more =
        let soon = less b x.time e in
        ap (λ d. slice a b (x ∷ xs) ++ cond d (x ∷ slice b c xs) (slice b c xs)) (not-behind b c x.time soon)
        ∙ front (in_slice a b x)
        ∙ ap (λ d. cond d (x ∷ slice a b xs ++ slice b c xs) (slice a b xs ++ slice b c xs)) (same-before a b c x.time bc soon)
        ∙ ap (λ l. cond (in_slice a c x) (x ∷ l) l) more

pub slice-all : (c : ℕ) (xs : List Tuple) → AllByRecursion (λ x. x.time < c) xs → slice 0 c xs ≡ xs
slice-all c [] all = refl
slice-all c (x ∷ xs) all = ap (λ d. cond d (x ∷ slice 0 c xs) (slice 0 c xs)) (yes x.time all.0) ∙ ap (λ l. x ∷ l) (slice-all c xs all.1)
  where
    yes : (t : ℕ) → t < c → (leb 0 t && ltb t c) ≡ true
    yes t h = grind (arith, nat_tests)

pub slice-nothing : (a : ℕ) (xs : List Tuple) → slice a a xs ≡ []
slice-nothing a [] = refl
slice-nothing a (x ∷ xs) = ap (λ d. cond d (x ∷ slice a a xs) (slice a a xs)) (no a x.time) ∙ slice-nothing a xs
  where
    no : (a t : ℕ) → (leb a t && ltb t a) ≡ false
    no a t = grind (arith, nat_tests)
