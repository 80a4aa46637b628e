-- Numbers in a row.
use Rattle.std.proofs.Common.{ap, arith, suc, zero, ℕ, [], ◌≡◌, ◌+◌, ◌∷◌, ◌++◌, ◌∙◌, Bool, inl, inr, subst, true, ◌<◌, ◌≤◌, Some, false, refl, None, map}
use Rattle.std.specs.List.{range_with_len, list_any, find}
use Rattle.std.proofs.lemmas.Bool.{cases_lt, or_right, or_left}
use Rattle.std.proofs.lemmas.List.FromFn.{map-range_with_len_more}
use Rattle.sq_words.specs.Lists.{numbers_to}

pub range_more : (a n : ℕ) → range_with_len a (suc n) ≡ range_with_len a n ++ (a + n) ∷ []
range_more a zero = let same : a ≡ a + 0 = omega arith in ap (λ k. k ∷ []) same
range_more a (suc n) = let same : a + 1 + n ≡ a + suc n = omega arith in ap (λ l. a ∷ l) (range_more (a + 1) n ∙ ap (λ k. range_with_len (a + 1) n ++ k ∷ []) same)

pub range_split : (a n m : ℕ) → range_with_len a (n + m) ≡ range_with_len a n ++ range_with_len (a + n) m
range_split a zero m = ap (range_with_len a) (let e : 0 + m ≡ m = omega arith in e) ∙ ap (λ k. range_with_len k m) (let e : a ≡ a + 0 = omega arith in e)
range_split a (suc n) m =
    ap (λ k. range_with_len a k) (let e : suc n + m ≡ suc (n + m) = omega arith in e)
    ∙ ap (λ l. a ∷ l) (range_split (a + 1) n m ∙ ap (λ k. range_with_len (a + 1) n ++ range_with_len k m) (let e : a + 1 + n ≡ a + suc n = omega arith in e))

pub any_in_range : (p : ℕ → Bool) (a n c : ℕ) → a ≤ c → c < a + n → p c ≡ true → list_any p (range_with_len a n) ≡ true
any_in_range p a zero c low high h = absurd (omega arith)
any_in_range p a (suc n) c low high h =
    elim (cases_lt a c) [
      | inl later ↦ (let low_more : a + 1 ≤ c = omega arith in let high_more : c < a + 1 + n = omega arith in or_right (p a) (list_any p (range_with_len (a + 1) n)) (any_in_range p (a + 1) n c low_more high_more h))
      | inr now ↦ (let same : c ≡ a = omega arith in or_left (p a) (list_any p (range_with_len (a + 1) n)) (subst (λ x. p x ≡ true) same h))
    ]

pub find_in_range : (p : ℕ → Bool) (a n r : ℕ) → a ≤ r → r < a + n → ((j : ℕ) → a ≤ j → j < r → p j ≡ false) → p r ≡ true → find p (range_with_len a n) ≡ Some r
find_in_range p a zero r low high before here = absurd (omega arith)
find_in_range p a (suc n) r low high before here =
    elim (cases_lt a r) [
      | inl later ↦ (
          let skip : p a ≡ false = before a (omega arith) later in
          let low_more : a + 1 ≤ r = omega arith in
          let high_more : r < a + 1 + n = omega arith in
          rw skip (find_in_range p (a + 1) n r low_more high_more (λ j g h. (let k : a ≤ j = omega arith in before j k h)) here))
      | inr now ↦ (
          let same : a ≡ r = omega arith in
          rw (same, here) refl)
    ]

pub find_none : (p : ℕ → Bool) (a n : ℕ) → ((j : ℕ) → a ≤ j → j < a + n → p j ≡ false) → find p (range_with_len a n) ≡ None
find_none p a zero before = refl
find_none p a (suc n) before =
    let skip : p a ≡ false = (let low : a ≤ a = omega arith in let high : a < a + suc n = omega arith in before a low high) in
    rw skip (find_none p (a + 1) n (λ j g h. (let low : a ≤ j = omega arith in let high : j < a + suc n = omega arith in before j low high)))

pub map_more : (f : ℕ → ℕ) (n : ℕ) → map f (numbers_to (n + 1)) ≡ map f (numbers_to n) ++ f n ∷ []
map_more f n = map-range_with_len_more f 0 n n (omega arith)

-- ---- which batches need a tick
