-- The states of one group.
use Rattle.std.proofs.Common.{◌≡◌, ℕ, zero, suc, ◌+◌, ◌-◌, ◌<◌, ◌≤◌, length, get_or, set, take, drop, ◌⊎◌, inl, inr, List, [], ◌∷◌, Bool, true, false, cond, refl, ap, ap₂, sym, ◌∙◌, subst, Ordering, Less, Equal, Greater, nat_cmp, arith, tests}
use Rattle.std.specs.Ordering.{match_ordering}
use Rattle.std.specs.Cmp.{nat_cmp_total}
use Rattle.std.specs.List.{AllByRecursion, filter, insert}
use Rattle.sq_aggfn.specs.KeyedStates.{added}
use Rattle.sq_pane.specs.Panes.{NumbersRise}
use Rattle.sq_rows.specs.Rows.{total, AllAreMade}
use Rattle.sq_pane.proofs.WindowLemmas.{itself}
use Rattle.sq_rows.proofs.RowLemmas.{all-at}

pub greater : (a b : ℕ) → b < a → nat_cmp a b ≡ Greater
greater a b lt = grind (arith, tests)

pub lesser : (a b : ℕ) → a < b → nat_cmp a b ≡ Less
lesser a b lt = grind (arith, tests)

module _ {A : Type 0} (P : A → Type 0) where
  all-set : (xs : List A) (i : ℕ) (x : A) → AllByRecursion P xs → P x → AllByRecursion P (set xs i x)
  all-set [] i x all p = tt
  all-set (y ∷ ys) zero x all p = (p, all.1)
  all-set (y ∷ ys) (suc i) x all p = (all.0, all-set ys i x all.1 p)

  all-insert : (xs : List A) (i : ℕ) (x : A) → AllByRecursion P xs → P x → AllByRecursion P (insert xs i x)
  all-insert [] zero x all p = (p, tt)
  all-insert [] (suc i) x all p = (p, tt)
  all-insert (y ∷ ys) zero x all p = (p, all)
  all-insert (y ∷ ys) (suc i) x all p = (all.0, all-insert ys i x all.1 p)

  pub all-kept : (p : A → Bool) (xs : List A) → AllByRecursion P xs → AllByRecursion P (filter p xs)
  all-kept p [] all = tt
  all-kept p (x ∷ xs) all = elim (p x) as (λ b. AllByRecursion P (cond b (x ∷ filter p xs) (filter p xs))) [ true ↦ (all.0, all-kept p xs all.1) | false ↦ all-kept p xs all.1 ]

-- an element that is there is the same, whatever else is said
pub same_at : {A : Type 0} (xs : List A) (i : ℕ) (x y : A) → i < length xs → x ≡ get_or xs i x → y ≡ get_or xs i y → x ≡ y
same_at [] i x y lt ex ey = absurd (omega (arith, lt))
same_at (z ∷ zs) zero x y lt ex ey = ex ∙ sym ey
same_at (z ∷ zs) (suc i) x y lt ex ey = same_at zs i x y (omega (arith, lt)) ex ey

-- an element that is written anew with itself
pub set_same : {A : Type 0} (xs : List A) (i : ℕ) (x : A) → i < length xs → x ≡ get_or xs i x → set xs i x ≡ xs
set_same [] i x lt is = absurd (omega (arith, lt))
set_same (y ∷ ys) zero x lt is = ap (λ z. z ∷ ys) is
set_same (y ∷ ys) (suc i) x lt is = ap (λ l. y ∷ l) (set_same ys i x (omega (arith, lt)) is)

-- what was kept rises
pub rises_kept : {M : Type 0} (p : ℕ × M → Bool) (es : List (ℕ × M)) → NumbersRise es → NumbersRise (filter p es)
rises_kept p [] up = tt
rises_kept {M} p (e ∷ es) up = elim (p e) as (λ b. NumbersRise (cond b (e ∷ filter p es) (filter p es))) [ true ↦ (all-kept (λ (h : ℕ × M). e.0 < h.0) p es up.0, rises_kept p es up.1) | false ↦ rises_kept p es up.1 ]

module _ {M : Type 0} where
  -- one of them is written anew
  pub rises_set : (es : List (ℕ × M)) (i : ℕ) (x : ℕ × M) (m : M) → i < length es → x ≡ get_or es i x → NumbersRise es → NumbersRise (set es i (x.0, m))
  rises_set [] i x m lt is up = tt
  rises_set (e ∷ es) zero x m lt is up = (subst (λ (z : ℕ × M). AllByRecursion (λ (h : ℕ × M). z.0 < h.0) es) (sym is) up.0, up.1)
  rises_set (e ∷ es) (suc i) x m lt is up =
      let low : e.0 < (get_or es i x).0 = all-at (λ (h : ℕ × M). e.0 < h.0) es i x up.0 (omega (arith, lt)) in
      (all-set (λ (h : ℕ × M). e.0 < h.0) es i (x.0, m) up.0 (subst (λ (z : ℕ × M). e.0 < z.0) (sym is) low), rises_set es i x m (omega (arith, lt)) is up.1)

  pub made_set : (made : M → Type 0) (es : List (ℕ × M)) (i : ℕ) (x : ℕ × M) → AllAreMade made es → made x.1 → AllAreMade made (set es i x)
  made_set made es i x all p = all-set (λ (e : ℕ × M). made e.1) es i x all p

  pub made_insert : (made : M → Type 0) (es : List (ℕ × M)) (i : ℕ) (x : ℕ × M) → AllAreMade made es → made x.1 → AllAreMade made (insert es i x)
  made_insert made es i x all p = all-insert (λ (e : ℕ × M). made e.1) es i x all p

  module _ (number : M → ℕ) where
    pub total_at : (es : List (ℕ × M)) (i : ℕ) (x : ℕ × M) → i < length es → x ≡ get_or es i x → number x.1 ≤ total number es
    total_at [] i x lt is = absurd (omega (arith, lt))
    total_at (e ∷ es) zero x lt is = (let s = ap (λ (z : ℕ × M). number z.1) is in omega (arith, s))
    total_at (e ∷ es) (suc i) x lt is = (let le = total_at es i x (omega (arith, lt)) is in omega (arith, le))

    pub total_set : (es : List (ℕ × M)) (i : ℕ) (x : ℕ × M) (y : ℕ × M) (n : ℕ) → i < length es → x ≡ get_or es i x → number y.1 ≡ number x.1 + n → total number (set es i y) ≡ total number es + n
    total_set [] i x y n lt is more = absurd (omega (arith, lt))
    total_set (e ∷ es) zero x y n lt is more = (let s = ap (λ (z : ℕ × M). number z.1) is in omega (arith, s, more))
    total_set (e ∷ es) (suc i) x y n lt is more = (let le = total_set es i x y n (omega (arith, lt)) is more in omega (arith, le))

    pub total_insert : (es : List (ℕ × M)) (i : ℕ) (x : ℕ × M) → total number (insert es i x) ≡ total number es + number x.1
    total_insert [] zero x = omega arith
    total_insert [] (suc i) x = omega arith
    total_insert (e ∷ es) zero x = omega arith
    total_insert (e ∷ es) (suc i) x = (let s = total_insert es i x in omega (arith, s))

-- what is written is added
module _ {M : Type 0} (none : M) (join : M → M → M) (n : ℕ) (u : M) where
  abbrev put : List (ℕ × M) → List (ℕ × M)
  put es = added nat_cmp none join n u es

  all-put : (P : ℕ × M → Type 0) → ((m : M) → P (n, m)) → (es : List (ℕ × M)) → AllByRecursion P es → AllByRecursion P (put es)
  all-put P p [] all = (p (join none u), tt)
  all-put P p (e ∷ es) all = by (nat_cmp n e.0) (all-put P p es all.1)
    where
      by : (o : Ordering) → AllByRecursion P (put es) → AllByRecursion P (match_ordering o ((n, join none u) ∷ e ∷ es) ((n, join e.1 u) ∷ es) (e ∷ put es))
      by Less ih = (p (join none u), all)
      by Equal ih = (p (join e.1 u), all.1)
      by Greater ih = (all.0, ih)

  before-all : (k : ℕ) → n < k → (es : List (ℕ × M)) → AllByRecursion (λ h. k < h.0) es → AllByRecursion (λ h. n < h.0) es
  before-all k lt [] all = tt
  before-all k lt (e ∷ es) all = (let low = all.0 in omega (arith, lt, low), before-all k lt es all.1)

  pub rises_put : (es : List (ℕ × M)) → NumbersRise es → NumbersRise (put es)
  rises_put [] up = (tt, tt)
  rises_put (e ∷ es) up = by (nat_cmp n e.0) refl (rises_put es up.1)
    where
      by : (o : Ordering) → nat_cmp n e.0 ≡ o → NumbersRise (put es) → NumbersRise (match_ordering o ((n, join none u) ∷ e ∷ es) ((n, join e.1 u) ∷ es) (e ∷ put es))
      by Less k ih = (let lt : n < e.0 = grind (arith, tests) in ((lt, before-all e.0 lt es up.0), up))
      by Equal k ih = (let same : e.0 ≡ n = grind (arith, tests) in (subst (λ (z : ℕ). AllByRecursion (λ (h : ℕ × M). z < h.0) es) same up.0, up.1))
      by Greater k ih = (let lt : e.0 < n = grind (arith, tests) in (all-put (λ (h : ℕ × M). e.0 < h.0) (λ m. lt) es up.0, ih))

  pub set_is_put : (es : List (ℕ × M)) (i : ℕ) (x : ℕ × M) → NumbersRise es → i < length es → x ≡ get_or es i x → x.0 ≡ n → set es i (x.0, join x.1 u) ≡ put es
  set_is_put [] i x up lt is same = absurd (omega (arith, lt))
  set_is_put (e ∷ es) zero x up lt is same =
      let equal : nat_cmp n e.0 ≡ Equal = ap (nat_cmp n) (sym (ap (λ (z : ℕ × M). z.0) is) ∙ same) ∙ itself nat_cmp nat_cmp_total n in
      ap₂ (λ k m. (k, join m u) ∷ es) same (ap (λ (z : ℕ × M). z.1) is)
      ∙ sym (ap (λ o. match_ordering o ((n, join none u) ∷ e ∷ es) ((n, join e.1 u) ∷ es) (e ∷ put es)) equal)
  set_is_put (e ∷ es) (suc i) x up lt is same =
      let low : e.0 < (get_or es i x).0 = all-at (λ (h : ℕ × M). e.0 < h.0) es i x up.0 (omega (arith, lt)) in
      let less : e.0 < n = subst (λ (z : ℕ). e.0 < z) (sym (ap (λ (z : ℕ × M). z.0) is) ∙ same) low in
      ap (λ l. e ∷ l) (set_is_put es i x up.1 (omega (arith, lt)) is same)
      ∙ sym (ap (λ o. match_ordering o ((n, join none u) ∷ e ∷ es) ((n, join e.1 u) ∷ es) (e ∷ put es)) (greater n e.0 less))

  -- those up to one are below what it is below
  below-all : (es : List (ℕ × M)) (k : ℕ) (x : ℕ × M) → NumbersRise es → k < length es → x ≡ get_or es k x → x.0 < n → AllByRecursion (λ h. h.0 < n) (take (suc k) es)
  below-all [] k x up lt is less = absurd (omega (arith, lt))
  below-all (e ∷ es) zero x up lt is less = (subst (λ (z : ℕ × M). z.0 < n) is less, tt)
  below-all (e ∷ es) (suc k) x up lt is less =
      let low : e.0 < (get_or es k x).0 = all-at (λ (h : ℕ × M). e.0 < h.0) es k x up.0 (omega (arith, lt)) in
      let lower : e.0 < x.0 = subst (λ (z : ℕ × M). e.0 < z.0) (sym is) low in
      (omega (arith, lower, less), below-all es k x up.1 (omega (arith, lt)) is less)

  insert-is-put : (es : List (ℕ × M)) (i : ℕ) → AllByRecursion (λ h. h.0 < n) (take i es) → AllByRecursion (λ h. n < h.0) (drop i es) → insert es i (n, join none u) ≡ put es
  insert-is-put [] zero low high = refl
  insert-is-put [] (suc i) low high = refl
  insert-is-put (e ∷ es) zero low high = sym (ap (λ o. match_ordering o ((n, join none u) ∷ e ∷ es) ((n, join e.1 u) ∷ es) (e ∷ put es)) (lesser n e.0 high.0))
  insert-is-put (e ∷ es) (suc i) low high =
      ap (λ l. e ∷ l) (insert-is-put es i low.1 high) ∙ sym (ap (λ o. match_ordering o ((n, join none u) ∷ e ∷ es) ((n, join e.1 u) ∷ es) (e ∷ put es)) (greater n e.0 low.0))

  pub insert_is_put : (es : List (ℕ × M)) (i : ℕ) → NumbersRise es → i ≤ length es → (i ≡ 0) ⊎ ((x : ℕ × M) × (0 < i) × (x ≡ get_or es (i - 1) x) × (x.0 < n)) → AllByRecursion (λ h. n < h.0) (drop i es)
      → insert es i (n, join none u) ≡ put es
  insert_is_put es i up le (inl none-before) high = insert-is-put es i (subst (λ (k : ℕ). AllByRecursion (λ (h : ℕ × M). h.0 < n) (take k es)) (sym none-before) tt) high
  insert_is_put es i up le (inr one) high =
      let next : suc (i - 1) ≡ i = (let some = one.1 in omega (arith, some)) in
      let inside : i - 1 < length es = (let some = one.1 in omega (arith, some, le)) in
      insert-is-put es i (subst (λ (k : ℕ). AllByRecursion (λ (h : ℕ × M). h.0 < n) (take k es)) next (below-all es (i - 1) one.0 up inside one.2 one.3)) high
