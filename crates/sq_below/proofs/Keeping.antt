-- The marks of the touched batches keep the tuples that some permitted batch needs; and what a gate shows.
use Rattle.std.proofs.Common.{◌≡◌, ℕ, zero, suc, ◌+◌, ◌-◌, ◌*◌, ◌/◌, ◌≤◌, ◌<◌, eqb, leb, ltb, Bool, true, false, cond, not, ◌||◌, List, [], ◌∷◌, map, refl, ap, sym, ◌∙◌, arith}
use Rattle.std.proofs.lemmas.Bool.Decides.{nat_tests}
use Rattle.std.proofs.Math.Nat.{div-lt_iff_lt-mul, div-mul-le_self}
use Rattle.std.specs.List.{filter, range_with_len}
use Rattle.sq_value.specs.declared.Tuple.{Tuple}
use Rattle.sq_words.specs.Lists.{max_by, numbers_to, contains_number}
use Rattle.sq_item.specs.declared.Mark.TheVariants as mark
use Rattle.sq_tagged.specs.TaggedStreams.{Timed, bound_in, bound_at, lessened_by, below_bounds}
use Rattle.sq_tagged.specs.Boxes.{mark_of}
use Rattle.sq_place.specs.Ranks.{Somewhere}
use Rattle.sq_words.proofs.Lists.{filter_agree}
use Rattle.sq_below.proofs.Bounds.{bound-less}
use Rattle.sq_below.proofs.Nearness.{Somewhere-weaker}
use Rattle.sq_below.proofs.ArcWords.{AllTimes, IsNear}
use Rattle.sq_words.proofs.Alls.{all_weaker}

bound-cons : (m : Timed) (ms : List Timed) (t : ℕ) → bound_at ms t ≤ bound_at (m ∷ ms) t
bound-cons m ms t = by (leb m.0 t)
  where
    by : (b : Bool) → bound_at ms t ≤ max_by (λ m. bound_in m.1) (cond b (m ∷ filter (λ m. leb m.0 t) ms) (filter (λ m. leb m.0 t) ms))
    by true = omega arith
    by false = omega arith

-- an item of a range that passes is counted
max-reaches : (f : ℕ → ℕ) (p : ℕ → Bool) (a n k : ℕ) → a ≤ k → k < a + n → p k ≡ true → f k ≤ max_by f (filter p (range_with_len a n))
max-reaches f p a zero k le lt e = absurd (omega (arith, le, lt))
max-reaches f p a (suc n) k le lt e = by (max-reaches f p (a + 1) n k) (eqb a k) refl
  where
    eq : (a k : ℕ) → eqb a k ≡ true → a ≡ k
    eq a k h = grind (arith, nat_tests)

    ne : (a k : ℕ) → eqb a k ≡ false → a ≤ k → a + 1 ≤ k
    ne a k h le = grind (arith, nat_tests)

    here : p a ≡ true → f a ≤ max_by f (cond (p a) (a ∷ filter p (range_with_len (a + 1) n)) (filter p (range_with_len (a + 1) n)))
    here h = rw h (omega arith)

    grows : (b : Bool) → max_by f (filter p (range_with_len (a + 1) n)) ≤ max_by f (cond b (a ∷ filter p (range_with_len (a + 1) n)) (filter p (range_with_len (a + 1) n)))
    grows true = omega arith
    grows false = omega arith

    by : (a + 1 ≤ k → k < a + 1 + n → p k ≡ true → f k ≤ max_by f (filter p (range_with_len (a + 1) n))) → (b : Bool) → eqb a k ≡ b → f k ≤ max_by f (filter p (range_with_len a (suc n)))
    by more true h = let same = eq a k h in rw (← same) (here (ap p same ∙ e))
    by more false h = let x = more (ne a k h le) (omega arith) e in let y = grows (p a) in omega (arith, x, y)

-- some item of a range that passes gives the greatest
max-some : (f : ℕ → ℕ) (p : ℕ → Bool) (a n z : ℕ) → z < max_by f (filter p (range_with_len a n)) → (k : ℕ) × (k < a + n) × (p k ≡ true) × (z < f k)
max-some f p a zero z h = absurd (omega (arith, h))
max-some f p a (suc n) z h = by (max-some f p (a + 1) n z) (p a) refl h
  where
    by : (z < max_by f (filter p (range_with_len (a + 1) n)) → (k : ℕ) × (k < a + 1 + n) × (p k ≡ true) × (z < f k)) → (b : Bool) → p a ≡ b
        → z < max_by f (cond b (a ∷ filter p (range_with_len (a + 1) n)) (filter p (range_with_len (a + 1) n))) → (k : ℕ) × (k < a + suc n) × (p k ≡ true) × (z < f k)
    by more true e h = two (ltb z (f a)) refl
      where
        lt : (a b : ℕ) → ltb a b ≡ true → a < b
        lt a b h = grind (arith, nat_tests)

        ge : (a b : ℕ) → ltb a b ≡ false → b ≤ a
        ge a b h = grind (arith, nat_tests)

        two : (b : Bool) → ltb z (f a) ≡ b → (k : ℕ) × (k < a + suc n) × (p k ≡ true) × (z < f k)
        two true q = (a, omega arith, e, lt z (f a) q)
        two false q = let low = ge z (f a) q in let r = more (omega (arith, h, low)) in let b = r.1 in (r.0, omega (arith, b), r.2, r.3)
    by more false e h = let r = more h in let b = r.1 in (r.0, omega (arith, b), r.2, r.3)

module _ (dropped : ℕ → Bool) (until : ℕ → ℕ) (len : ℕ) (one : 1 ≤ len) where
  -- K: until when the permitted batches that begin by a time need tuples
  abbrev pub needed_by : ℕ → ℕ
  needed_by t = max_by until (filter (λ b. not (dropped b)) (numbers_to (t / len + 1)))

  abbrev pub marks_of : List ℕ → List Timed
  marks_of touched = map (mark_of dropped until len) touched

  -- the mark of a permitted touched batch bounds
  pub bound-reaches : (touched : List ℕ) (b t : ℕ) → contains_number touched b ≡ true → dropped b ≡ false → b * len ≤ t → until b ≤ bound_at (marks_of touched) t
  bound-reaches [] b t c h le = absurd (cc c)
  bound-reaches (x ∷ xs) b t c h le = by (λ c. bound-reaches xs b t c h le) (eqb x b) refl c
    where
      eq : (a k : ℕ) → eqb a k ≡ true → a ≡ k
      eq a k h = grind (arith, nat_tests)

      low : (a k : ℕ) → a ≤ k → leb a k ≡ true
      low a k h = grind (arith, nat_tests)

      here : until b ≤ max_by (λ m. bound_in m.1) (cond (leb (b * len) t) ((b * len, cond (dropped b) mark.Closed (mark.Open (until b))) ∷ filter (λ m. leb m.0 t) (marks_of xs)) (filter (λ m. leb m.0 t) (marks_of xs)))
      here = rw (low (b * len) t le, h) (omega arith)

      by : (contains_number xs b ≡ true → until b ≤ bound_at (marks_of xs) t) → (e : Bool) → eqb x b ≡ e → (e || contains_number xs b) ≡ true → until b ≤ bound_at (marks_of (x ∷ xs)) t
      by more true e c = rw (eq x b e) here
      by more false e c = let r = more c in let s = bound-cons (mark_of dropped until len x) (marks_of xs) t in omega (arith, r, s)

  -- a permitted batch that began is counted in K
  pub needed-reaches : (b t : ℕ) → dropped b ≡ false → b * len ≤ t → until b ≤ needed_by t
  needed-reaches b t h le = max-reaches until (λ b. not (dropped b)) 0 (t / len + 1) b (omega arith) (omega (arith, began)) (ap not h)
    where
      began : b < t / len + 1
      began = by (ltb (t / len) b) refl
        where
          lt : (a b : ℕ) → ltb a b ≡ true → a < b
          lt a b h = grind (arith, nat_tests)

          ge : (a b : ℕ) → ltb a b ≡ false → b ≤ a
          ge a b h = grind (arith, nat_tests)

          by : (c : Bool) → ltb (t / len) b ≡ c → b < t / len + 1
          by true e = let no : t < b * len = (div-lt_iff_lt-mul one).0 (lt (t / len) b e) in absurd (omega (arith, no, le))
          by false e = let x = ge (t / len) b e in omega (arith, x)

  -- a number below K is below the bound of a permitted batch that began
  pub needed-some : (t z : ℕ) → z < needed_by t → (b : ℕ) × (b * len ≤ t) × (dropped b ≡ false) × (z < until b)
  needed-some t z h =
      let some = max-some until (λ b. not (dropped b)) 0 (t / len + 1) z h in
      (some.0, start some.0 some.1, permitted (dropped some.0) some.2, some.3)
    where
      permitted : (c : Bool) → not c ≡ true → c ≡ false
      permitted true e = absurd (cc e)
      permitted false e = refl

      start : (b : ℕ) → b < 0 + (t / len + 1) → b * len ≤ t
      start b lt = let x : b * len ≤ t / len * len = times b (t / len) (omega (arith, lt)) in let y = div-mul-le_self t len in omega (arith, x, y)
        where
          times : (a c : ℕ) → a ≤ c → a * len ≤ c * len
          times a c le = grind arith

  bound-within : (touched : List ℕ) (t : ℕ) → bound_at (marks_of touched) t ≤ needed_by t
  bound-within [] t = omega arith
  bound-within (x ∷ xs) t = by (bound-within xs t) (leb (x * len) t) (dropped x) refl refl
    where
      low : (a k : ℕ) → leb a k ≡ true → a ≤ k
      low a k h = grind (arith, nat_tests)

      by : bound_at (marks_of xs) t ≤ needed_by t → (b c : Bool) → leb (x * len) t ≡ b → dropped x ≡ c
          → max_by (λ m. bound_in m.1) (cond b ((x * len, cond c mark.Closed (mark.Open (until x))) ∷ filter (λ m. leb m.0 t) (marks_of xs)) (filter (λ m. leb m.0 t) (marks_of xs))) ≤ needed_by t
      by more true true p q = omega (arith, more)
      by more true false p q = let r = needed-reaches x t q (low (x * len) t p) in omega (arith, more, r)
      by more false c p q = more

  module _ (touched : List ℕ) (above : List Tuple) (complete : (b : ℕ) → Somewhere (λ y. (b * len ≤ y.time) × (y.time < until b)) above → contains_number touched b ≡ true) where
    -- where a permitted batch needs a tuple, it is touched, so that its mark bounds
    needed-bound : (d t : ℕ) → IsNear above d t → t < needed_by t - d → t < bound_at (marks_of touched) t - d
    needed-bound d t near h =
        let some = needed-some t (t + d) (omega (arith, h)) in
        let b = some.0 in
        let began : b * len ≤ t = some.1 in
        let until-b : t + d < until b = some.3 in
        let there = complete b (Somewhere-weaker (λ y. (t ≤ y.time) × (y.time ≤ t + d)) (λ y. (b * len ≤ y.time) × (y.time < until b)) (λ y p. let l = p.0 in let u = p.1 in (omega (arith, l, began), omega (arith, u, until-b))) above near) in
        let bounds = bound-reaches touched b t there some.2 began in
        omega (arith, bounds, until-b)

    pub kept-marked : (d : ℕ) (full : List Tuple) → AllTimes (IsNear above d) full
        → filter (λ x. ltb x.time (needed_by x.time - d)) full ≡ below_bounds (lessened_by d (marks_of touched)) full
    kept-marked d full near =
        filter_agree (λ x. ltb x.time (needed_by x.time - d)) (λ x. ltb x.time (bound_at (lessened_by d (marks_of touched)) x.time)) full
        (all_weaker (λ x. IsNear above d x.time) (λ x. ltb x.time (needed_by x.time - d) ≡ ltb x.time (bound_at (lessened_by d (marks_of touched)) x.time)) (λ x i. agrees x.time i) full near)
      where
        lem : (t a b : ℕ) → (t < a → t < b) → b ≤ a → ltb t a ≡ ltb t b
        lem t a b f le = by (ltb t a) (ltb t b) refl refl
          where
            lt : (a b : ℕ) → ltb a b ≡ true → a < b
            lt a b h = grind (arith, nat_tests)

            ge : (a b : ℕ) → ltb a b ≡ false → b ≤ a
            ge a b h = grind (arith, nat_tests)

            by : (p q : Bool) → ltb t a ≡ p → ltb t b ≡ q → p ≡ q
            by true true x y = refl
            by true false x y = let u = f (lt t a x) in let v = ge t b y in absurd (omega (arith, u, v))
            by false true x y = let u = lt t b y in let v = ge t a x in absurd (omega (arith, u, v, le))
            by false false x y = refl

        agrees : (t : ℕ) → IsNear above d t → ltb t (needed_by t - d) ≡ ltb t (bound_at (lessened_by d (marks_of touched)) t)
        agrees t i =
            let within = bound-within touched t in
            lem t (needed_by t - d) (bound_at (marks_of touched) t - d) (needed-bound d t i) (omega (arith, within))
            ∙ ap (λ z. ltb t z) (sym (bound-less d (marks_of touched) t))
