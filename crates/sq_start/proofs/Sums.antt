-- Sums over the first numbers.
use Rattle.std.proofs.Common.{◌≡◌, ℕ, zero, suc, ◌+◌, ◌<◌, ◌≤◌, eqb, Bool, true, false, cond, List, [], ◌∷◌, length, Option, Some, refl, ap, ◌∙◌, arith}
use Rattle.std.specs.Prelude.{slice_get}
use Rattle.std.specs.List.{sum_by, range_with_len}
use Rattle.std.proofs.lemmas.List.Sums.{sum_by-cons}
use Rattle.std.proofs.lemmas.Bool.Decides.{nat_tests}
use Rattle.sq_words.specs.Lists.{numbers_to}

abbrev pub total : (ℕ → ℕ) → ℕ → ℕ
total f zero = 0
total f (suc n) = total f n + f n

pub total-same : (f g : ℕ → ℕ) (n : ℕ) → ((i : ℕ) → i < n → f i ≡ g i) → total f n ≡ total g n
total-same f g zero same = refl
total-same f g (suc n) same =
    let more = total-same f g n (λ i low. same i (omega (arith, low))) in
    let last = same n (omega arith) in
    omega (arith, more, last)

pub total-fewer : (f g : ℕ → ℕ) (n : ℕ) → ((i : ℕ) → f i ≤ g i) → total f n ≤ total g n
total-fewer f g zero less = omega arith
total-fewer f g (suc n) less = (let more = total-fewer f g n less in let last = less n in omega (arith, more, last))

pub total-added : (f g : ℕ → ℕ) (n : ℕ) → total (λ i. f i + g i) n ≡ total f n + total g n
total-added f g zero = refl
total-added f g (suc n) = (let more = total-added f g n in omega (arith, more))

pub total-split : (f : ℕ → ℕ) (a b : ℕ) → total f (a + b) ≡ total f a + total (λ i. f (a + i)) b
total-split f a zero = (let e : a + 0 ≡ a = omega arith in let same = ap (total f) e in omega (arith, same))
total-split f a (suc b) =
    let e : a + suc b ≡ suc (a + b) = omega arith in
    let more = total-split f a b in
    ap (total f) e ∙ omega (arith, more)

total-front : (f : ℕ → ℕ) (n : ℕ) → total f (suc n) ≡ f 0 + total (λ i. f (suc i)) n
total-front f zero = omega arith
total-front f (suc n) = (let more = total-front f n in omega (arith, more))

range-total : (f : ℕ → ℕ) (a n : ℕ) → sum_by f (range_with_len a n) ≡ total (λ i. f (a + i)) n
range-total f a zero = refl
range-total f a (suc n) =
    let here = sum_by-cons f a (range_with_len (a + 1) n) in
    let more = range-total f (a + 1) n in
    let front = total-front (λ i. f (a + i)) n in
    let first = ap f (plus-zero a) in
    let shift = total-same (λ i. f (a + 1 + i)) (λ i. f (a + suc i)) n (λ i low. ap f (plus-one a i)) in
    omega (arith, here, more, front, first, shift)
  where
    plus-zero : (a : ℕ) → a + 0 ≡ a
    plus-zero a = omega arith

    plus-one : (a i : ℕ) → a + 1 + i ≡ a + suc i
    plus-one a i = omega arith

pub sum-total : (f : ℕ → ℕ) (n : ℕ) → sum_by f (numbers_to n) ≡ total f n
sum-total f n = range-total f 0 n ∙ total-same (λ i. f (0 + i)) f n (λ i low. ap f (zero-plus i))
  where
    zero-plus : (i : ℕ) → 0 + i ≡ i
    zero-plus i = omega arith

-- a sum over the places of a list
pub total-items : {A : Type 0} (g : Option A → ℕ) (xs : List A) → total (λ i. g (slice_get xs i)) (length xs) ≡ sum_by (λ x. g (Some x)) xs
total-items g [] = refl
total-items {A} g (x ∷ xs) =
    let front = total-front (λ i. g (slice_get (x ∷ xs) i)) (length xs) in
    let more = total-items g xs in
    let here = sum_by-cons (λ (y : A). g (Some y)) x xs in
    omega (arith, front, more, here)

-- one number counts once
before-once : (k t n : ℕ) → n ≤ k → total (λ i. cond (eqb k i) t 0) n ≡ 0
before-once k t zero le = refl
before-once k t (suc n) le =
    let more = before-once k t n (omega (arith, le)) in
    let other : eqb k n ≡ false = other-than k n le in
    let last = ap (λ b. cond b t 0) other in
    omega (arith, more, last)
  where
    other-than : (k n : ℕ) → suc n ≤ k → eqb k n ≡ false
    other-than k n le = grind (arith, nat_tests)

pub total-once : (k t n : ℕ) → total (λ i. cond (eqb k i) t 0) n ≤ t
total-once k t zero = omega arith
total-once k t (suc n) = by (eqb k n) refl (total-once k t n)
  where
    same-as : (k n : ℕ) → eqb k n ≡ true → n ≤ k
    same-as k n e = grind (arith, nat_tests)

    by : (b : Bool) → eqb k n ≡ b → total (λ i. cond (eqb k i) t 0) n ≤ t → total (λ i. cond (eqb k i) t 0) n + cond (eqb k n) t 0 ≤ t
    by true e more =
        let none = before-once k t n (same-as k n e) in
        let last = ap (λ b. cond b t 0) e in
        omega (arith, none, last)
    by false e more = (let last = ap (λ b. cond b t 0) e in omega (arith, more, last))
