-- Where each number passes the test of one place at most, sums over the numbers of all places are sums over some of the numbers.
use Rattle.std.proofs.Common.{◌≡◌, ℕ, zero, suc, ◌+◌, ◌*◌, ◌<◌, ◌≤◌, Bool, true, false, cond, List, [], ◌∷◌, map, length, Some, slice_get, refl, ap, sym, ◌∙◌, arith}
use Rattle.std.specs.List.{AllByRecursion, filter, sum_by, range_with_len}
use Rattle.std.proofs.lemmas.List.Sums.{sum_by-cons}

pub sum-mapped : {X Y : Type 0} (f : Y → ℕ) (g : X → Y) (xs : List X) → sum_by f (map g xs) ≡ sum_by (λ x. f (g x)) xs
sum-mapped f g [] = refl
sum-mapped f g (x ∷ xs) = sum_by-cons f (g x) (map g xs) ∙ ap (λ n. f (g x) + n) (sum-mapped f g xs) ∙ sym (sum_by-cons (λ x. f (g x)) x xs)

pub sum-agree : {X : Type 0} (f g : X → ℕ) (xs : List X) → ((x : X) → f x ≡ g x) → sum_by f xs ≡ sum_by g xs
sum-agree f g [] h = refl
sum-agree f g (x ∷ xs) h = sum_by-cons f x xs ∙ ap (λ n. n + sum_by f xs) (h x) ∙ ap (λ n. g x + n) (sum-agree f g xs h) ∙ sym (sum_by-cons g x xs)

pub sum-both : {X : Type 0} (f g : X → ℕ) (xs : List X) → sum_by (λ x. f x + g x) xs ≡ sum_by f xs + sum_by g xs
sum-both f g [] = refl
sum-both f g (x ∷ xs) =
    let all = sum_by-cons (λ x. f x + g x) x xs in
    let left = sum_by-cons f x xs in
    let right = sum_by-cons g x xs in
    let more = sum-both f g xs in
    omega (arith, all, left, right, more)

pub sum-none : {X : Type 0} (xs : List X) → sum_by (λ x. 0) xs ≡ 0
sum-none [] = refl
sum-none (x ∷ xs) = let all = sum_by-cons (λ x. 0) x xs in let more = sum-none xs in omega (arith, all, more)

-- sums of sums, the other way round
pub sums-swapped : {X Y : Type 0} (f : X → Y → ℕ) (xs : List X) (ys : List Y) → sum_by (λ y. sum_by (λ x. f x y) xs) ys ≡ sum_by (λ x. sum_by (f x) ys) xs
sums-swapped f [] ys = sum-none ys
sums-swapped f (x ∷ xs) ys =
    sum-agree (λ y. sum_by (λ x. f x y) (x ∷ xs)) (λ y. f x y + sum_by (λ x. f x y) xs) ys (λ y. sum_by-cons (λ x. f x y) x xs)
    ∙ sum-both (f x) (λ y. sum_by (λ x. f x y) xs) ys
    ∙ ap (λ n. sum_by (f x) ys + n) (sums-swapped f xs ys)
    ∙ sym (sum_by-cons (λ x. sum_by (f x) ys) x xs)

pub sum-at-most : (f : ℕ → ℕ) (m : ℕ) (xs : List ℕ) → ((x : ℕ) → f x ≤ m) → sum_by f xs ≤ length xs * m
sum-at-most f m [] h = omega arith
sum-at-most f m (x ∷ xs) h =
    let here = h x in
    let more = sum-at-most f m xs h in
    let all = sum_by-cons f x xs in
    grind (arith, here, more, all)

-- where each is at least 1, there are no more than they sum to
pub few-by-sum : {X : Type 0} (f : X → ℕ) (xs : List X) → AllByRecursion (λ x. 1 ≤ f x) xs → length xs ≤ sum_by f xs
few-by-sum f [] h = omega arith
few-by-sum f (x ∷ xs) h =
    let here = h.0 in
    let more = few-by-sum f xs h.1 in
    let all = sum_by-cons f x xs in
    omega (arith, here, more, all)

module _ {X : Type 0} (t : X → ℕ → Bool) (f : ℕ → ℕ) where
  -- a number passes the test of one place at most
  abbrev pub IsAlone : List X → ℕ → Type 0
  IsAlone xs o = (i j : ℕ) (x y : X) → slice_get xs i ≡ Some x → slice_get xs j ≡ Some y → t x o ≡ true → t y o ≡ true → i ≡ j

  abbrev share : ℕ → X → ℕ
  share o x = cond (t x o) (f o) 0

  no-share : (xs : List X) (o : ℕ) → ((j : ℕ) (y : X) → slice_get xs j ≡ Some y → t y o ≡ true → ⊥) → sum_by (share o) xs ≡ 0
  no-share [] o h = refl
  no-share (x ∷ xs) o h = sum_by-cons (share o) x xs ∙ ap (λ n. share o x + n) (no-share xs o (λ j y e k. h (suc j) y e k)) ∙ by (t x o) refl
    where
      by : (b : Bool) → t x o ≡ b → cond b (f o) 0 + 0 ≡ 0
      by true e = absurd (h zero x refl e)
      by false e = refl

  one-share : (xs : List X) (o : ℕ) → IsAlone xs o → sum_by (share o) xs ≤ f o
  one-share [] o h = omega arith
  one-share (x ∷ xs) o h =
      let all = sum_by-cons (share o) x xs in
      by (one-share xs o (λ i j y z e k a b. (let same = h (suc i) (suc j) y z e k a b in omega (arith, same)))) (t x o) refl all
    where
      by : sum_by (share o) xs ≤ f o → (b : Bool) → t x o ≡ b → sum_by (share o) (x ∷ xs) ≡ cond b (f o) 0 + sum_by (share o) xs → sum_by (share o) (x ∷ xs) ≤ f o
      by more true e all =
          let none = no-share xs o (λ j y k a. (let same = h zero (suc j) x y refl k e a in absurd (omega (arith, same)))) in
          omega (arith, all, none)
      by more false e all = omega (arith, more, all)

  one-more : (a : ℕ) (ns : List ℕ) (x : X) → sum_by f (filter (t x) (a ∷ ns)) ≡ share a x + sum_by f (filter (t x) ns)
  one-more a ns x = by (t x a)
    where
      by : (b : Bool) → sum_by f (cond b (a ∷ filter (t x) ns) (filter (t x) ns)) ≡ cond b (f a) 0 + sum_by f (filter (t x) ns)
      by true = sum_by-cons f a (filter (t x) ns)
      by false = omega arith

  pub shared : (xs : List X) (a n : ℕ) → ((o : ℕ) → a ≤ o → o < a + n → IsAlone xs o) → sum_by (λ x. sum_by f (filter (t x) (range_with_len a n))) xs ≤ sum_by f (range_with_len a n)
  shared xs a zero h = let none = sum-none xs in omega (arith, none)
  shared xs a (suc n) h =
      let split = sum-agree (λ x. sum_by f (filter (t x) (range_with_len a (suc n)))) (λ x. share a x + sum_by f (filter (t x) (range_with_len (a + 1) n))) xs (one-more a (range_with_len (a + 1) n)) in
      let both = sum-both (share a) (λ x. sum_by f (filter (t x) (range_with_len (a + 1) n))) xs in
      let here = one-share xs a (h a (omega arith) (omega arith)) in
      let more = shared xs (a + 1) n (λ o low high. h o (omega (arith, low)) (omega (arith, high))) in
      let all = sum_by-cons f a (range_with_len (a + 1) n) in
      omega (arith, split, both, here, more, all)
