-- Lists of numbers: what stands in them, and that of two climbing lists of the same numbers both are one.
use Rattle.std.proofs.Common.{◌≡◌, ℕ, zero, suc, ◌+◌, ◌<◌, ◌≤◌, eqb, ltb, leb, cond, Bool, true, false, ◌||◌, ◌&&◌, List, [], ◌∷◌, ◌++◌, length, get_or, take, map, refl, ap, sym, ◌∙◌, arith}
use Rattle.std.proofs.lemmas.Bool.{or_right, or_from, or_parts}
use Rattle.std.specs.List.{filter, range_with_len, list_all}
use Rattle.std.specs.Prelude.{slice_get, Some}
use Rattle.std.proofs.lemmas.Bool.Decides.{nat_tests}
use Rattle.sq_sched.specs.ReadyLists.{AreActors, OnlyOnce}
use Rattle.sq_left.proofs.MergeLemmas.{eqb-no, eqb-not}
use Rattle.sq_flow.specs.Wiring.{Climbs}
use Rattle.sq_words.specs.Lists.{contains_number}
use Rattle.sq_words.proofs.Bools.{and_true, and_first}
use Rattle.std.proofs.lemmas.Map.Views.{exact_unsigned_eq}
use Rattle.sq_words.proofs.Lists.{contains_append, contains_filter}
use Rattle.sq_words.proofs.Numbers.{eqb_true}

pub contains-range : (from many n : ℕ) → contains_number (range_with_len from many) n ≡ (leb from n && ltb n (from + many))
contains-range from zero n = grind (arith, nat_tests)
contains-range from (suc many) n = ap (λ b. eqb from n || b) (contains-range (from + 1) many n) ∙ grind (arith, nat_tests)

next-eqb : (a b : ℕ) → eqb (a + 1) (suc b) ≡ eqb a b
next-eqb a b = grind (arith, nat_tests)

pub contains-next : (xs : List ℕ) (n : ℕ) → contains_number (map (λ x. x + 1) xs) (suc n) ≡ contains_number xs n
contains-next [] n = refl
contains-next (x ∷ xs) n = ap (λ b. b || contains_number (map (λ x. x + 1) xs) (suc n)) (next-eqb x n) ∙ ap (λ b. eqb x n || b) (contains-next xs n)

pub zero-next : (xs : List ℕ) → contains_number (map (λ x. x + 1) xs) 0 ≡ false
zero-next [] = refl
zero-next (x ∷ xs) = ap (λ b. b || contains_number (map (λ x. x + 1) xs) 0) (eqb-not (x + 1) 0 (omega arith)) ∙ zero-next xs

pub at-next : (xs : List ℕ) (i x : ℕ) → i < length xs → x ≡ get_or xs i x → x + 1 ≡ get_or (map (λ x. x + 1) xs) i 0
at-next [] i x low is = absurd (omega arith)
at-next (y ∷ xs) zero x low is = ap (λ z. z + 1) is
at-next (y ∷ xs) (suc i) x low is = at-next xs i x (omega arith) is

pub climbs-filter : (p : ℕ → Bool) (xs : List ℕ) → Climbs xs → Climbs (filter p xs)
climbs-filter p [] h = tt
climbs-filter p (x ∷ xs) h = by (p x) (climbs-filter p xs h.1)
  where
    by : (kept : Bool) → Climbs (filter p xs) → Climbs (cond kept (x ∷ filter p xs) (filter p xs))
    by true more = (λ y is. h.0 y (and_first (contains_number xs y) (p y) (sym (contains_filter p xs y) ∙ is)), more)
    by false more = more

pub climbs-range : (from many : ℕ) → Climbs (range_with_len from many)
climbs-range from zero = tt
climbs-range from (suc many) = (λ y is. later y (sym (contains-range (from + 1) many y) ∙ is), climbs-range (from + 1) many)
  where
    later : (y : ℕ) → (leb (from + 1) y && ltb y (from + 1 + many)) ≡ true → from < y
    later y h = grind (arith, nat_tests)

pub climbs-next : (xs : List ℕ) → Climbs xs → Climbs (map (λ x. x + 1) xs)
climbs-next [] h = tt
climbs-next (x ∷ xs) h = (later, climbs-next xs h.1)
  where
    later : (y : ℕ) → contains_number (map (λ x. x + 1) xs) y ≡ true → x + 1 < y
    later zero is = absurd (cc (zero-next xs, is))
    later (suc y) is =
        let below : x < y = h.0 y (sym (contains-next xs y) ∙ is) in
        omega (arith, below)

pub contains-at : (xs : List ℕ) (i x d : ℕ) → i < length xs → x ≡ get_or xs i d → contains_number xs x ≡ true
contains-at [] i x d low is = absurd (omega arith)
contains-at (y ∷ xs) zero x d low is = ap (λ b. b || contains_number xs x) (eqb_true y x (sym is))
contains-at (y ∷ xs) (suc i) x d low is = or_right (eqb y x) (contains_number xs x) (contains-at xs i x d (omega arith) is)

-- what stands in a climbing list stands nowhere before its place
pub climbs-front : (xs : List ℕ) (i x : ℕ) → Climbs xs → i < length xs → x ≡ get_or xs i 0 → contains_number (take i xs) x ≡ false
climbs-front xs zero x h low is = refl
climbs-front [] (suc i) x h low is = refl
climbs-front (y ∷ xs) (suc i) x h low is =
    let within : i < length xs = omega arith in
    let below : y < x = h.0 x (contains-at xs i x 0 within is) in
    ap (λ b. b || contains_number (take i xs) x) (eqb-not y x (omega (arith, below))) ∙ climbs-front xs i x h.1 within is

pub climbs-same : (xs ys : List ℕ) → Climbs xs → Climbs ys → ((n : ℕ) → contains_number xs n ≡ contains_number ys n) → xs ≡ ys
climbs-same [] [] h k same = refl
climbs-same [] (y ∷ ys) h k same = absurd (cc (same y, eqb_true y y refl))
climbs-same (x ∷ xs) [] h k same = absurd (cc (same x, eqb_true x x refl))
climbs-same (x ∷ xs) (y ∷ ys) h k same =
    let one : x ≡ y = omega (arith, no-less x y xs ys k (same x), no-less y x ys xs h (sym (same y))) in
    ap (λ z. z ∷ xs) one ∙ ap (λ zs. y ∷ zs) (climbs-same xs ys h.1 k.1 (tails one))
  where
    no-less : (a b : ℕ) (us vs : List ℕ) → Climbs (b ∷ vs) → contains_number (a ∷ us) a ≡ contains_number (b ∷ vs) a → b ≤ a
    no-less a b us vs up e = by (eqb b a) refl (sym e ∙ ap (λ t. t || contains_number us a) (eqb_true a a refl))
      where
        by : (t : Bool) → eqb b a ≡ t → (t || contains_number vs a) ≡ true → b ≤ a
        by true t is = let s : b ≡ a = exact_unsigned_eq b a t in omega (arith, s)
        by false t is = let l : b < a = up.0 a is in omega (arith, l)

    tails : x ≡ y → (n : ℕ) → contains_number xs n ≡ contains_number ys n
    tails one n = by (eqb x n) (eqb y n) refl refl (same n)
      where
        not-in : (a : ℕ) (us : List ℕ) → Climbs (a ∷ us) → a ≡ n → contains_number us n ≡ false
        not-in a us up e = at (contains_number us n) refl
          where
            at : (t : Bool) → contains_number us n ≡ t → t ≡ false
            at false t = refl
            at true t = let l : a < n = up.0 n t in absurd (omega (arith, l, e))

        by : (b c : Bool) → eqb x n ≡ b → eqb y n ≡ c → (b || contains_number xs n) ≡ (c || contains_number ys n) → contains_number xs n ≡ contains_number ys n
        by true true e f s = not-in x xs h (exact_unsigned_eq x n e) ∙ sym (not-in y ys k (exact_unsigned_eq y n f))
        by true false e f s = absurd (eqb-no y n f (sym one ∙ exact_unsigned_eq x n e))
        by false true e f s = absurd (eqb-no x n e (one ∙ exact_unsigned_eq y n f))
        by false false e f s = s

pub once-climbs : (xs : List ℕ) → Climbs xs → OnlyOnce xs
once-climbs [] h = tt
once-climbs (x ∷ xs) h = (by (contains_number xs x) refl, once-climbs xs h.1)
  where
    by : (t : Bool) → contains_number xs x ≡ t → t ≡ false
    by false t = refl
    by true t = let l : x < x = h.0 x t in absurd (omega (arith, l))

pub once-append : (xs ys : List ℕ) → OnlyOnce xs → OnlyOnce ys → ((n : ℕ) → contains_number ys n ≡ true → contains_number xs n ≡ false) → OnlyOnce (xs ++ ys)
once-append [] ys h k apart = k
once-append (x ∷ xs) ys h k apart =
    (contains_append xs ys x ∙ or_from (contains_number xs x) (contains_number ys x) h.0 (away (contains_number ys x) refl), once-append xs ys h.1 k (λ n is. (or_parts (eqb x n) (contains_number xs n) (apart n is)).1))
  where
    away : (t : Bool) → contains_number ys x ≡ t → t ≡ false
    away false t = refl
    away true t = absurd (cc (apart x t, eqb_true x x refl))

pub actors-append : (n : ℕ) (xs ys : List ℕ) → AreActors n xs → AreActors n ys → AreActors n (xs ++ ys)
actors-append n xs ys h k x is = by (contains_number xs x) refl (sym (contains_append xs ys x) ∙ is)
  where
    by : (b : Bool) → contains_number xs x ≡ b → (b || contains_number ys x) ≡ true → x < n
    by true e f = h x e
    by false e f = k x f

pub all-agree : (p q : ℕ → Bool) (xs : List ℕ) → ((i x : ℕ) → slice_get xs i ≡ Some x → p x ≡ q x) → list_all p xs ≡ list_all q xs
all-agree p q [] h = refl
all-agree p q (x ∷ xs) h = ap (λ b. b && list_all p xs) (h 0 x refl) ∙ ap (λ b. q x && b) (all-agree p q xs (λ i y is. h (suc i) y is))

pub map-agree : (f g : ℕ → ℕ) (xs : List ℕ) → ((i x : ℕ) → slice_get xs i ≡ Some x → f x ≡ g x) → map f xs ≡ map g xs
map-agree f g [] h = refl
map-agree f g (x ∷ xs) h = ap (λ y. y ∷ map f xs) (h 0 x refl) ∙ ap (λ ys. g x ∷ ys) (map-agree f g xs (λ i y is. h (suc i) y is))

pub all-at : (p : ℕ → Bool) (xs : List ℕ) → list_all p xs ≡ true → (i x : ℕ) → slice_get xs i ≡ Some x → p x ≡ true
all-at p [] all i x is = absurd (cc is)
all-at p (y ∷ xs) all zero x is =
    let same : y ≡ x = cc is in
    ap p (sym same) ∙ (and_true (p y) (list_all p xs) all).0
all-at p (y ∷ xs) all (suc i) x is = all-at p xs (and_true (p y) (list_all p xs) all).1 i x is

pub all-from : (p : ℕ → Bool) (xs : List ℕ) → ((i x : ℕ) → slice_get xs i ≡ Some x → p x ≡ true) → list_all p xs ≡ true
all-from p [] h = refl
all-from p (x ∷ xs) h = ap (λ b. b && list_all p xs) (h 0 x refl) ∙ all-from p xs (λ i y is. h (suc i) y is)
