-- A slice of a run that drops batches: a batch is dropped in a part where it is in the whole.
use Rattle.std.proofs.Common.{◌≡◌, ℕ, zero, suc, ◌+◌, ◌-◌, ◌*◌, ◌/◌, ◌%◌, ◌<◌, ◌≤◌, max, eqb, leb, ltb, Bool, true, false, not, cond, ◌&&◌, ◌||◌, List, [], ◌∷◌, map, length, Option, Some, None, refl, ap, sym, ◌∙◌, arith, inl, inr}
use Rattle.std.proofs.Math.Nat.{mod-lt, div-mul-le_self}
use Rattle.std.proofs.lemmas.Bool.{cases_lt}
use Rattle.std.proofs.lemmas.Bool.Decides.{nat_tests}
use Rattle.std.proofs.lemmas.Nat.{div-add-mod', le-div}
use Rattle.std.proofs.lemmas.List.Sums.{length-filter}
use Rattle.std.specs.List.{filter, list_any, count_by, range_with_len}
use Rattle.sq_value.specs.declared.Tuple.{Tuple}
use Rattle.sq_words.specs.Lists.{contains_number, numbers_to}
use Rattle.sq_words.proofs.Alls.{all_weaker}
use Rattle.sq_words.proofs.Bools.{and_true}
use Rattle.sq_words.proofs.Lists.{contains_filter}
use Rattle.sq_words.proofs.Numbers.{eq_from, leb_from, times_up}
use Rattle.sq_graph.specs.Wires.{output_arc_at}
use Rattle.sq_place.proofs.Lists.{contains-range}
use Rattle.sq_place.specs.declared.DropPoint.{DropPoint}
use Rattle.sq_place.specs.Points.{until_of}
use Rattle.sq_lines.specs.LineTexts.{drop_line}
use Rattle.sq_points.specs.Above.{drop_above_output}
use Rattle.sq_points.specs.Points.{setting_of}
use Rattle.sq_plan.specs.PlanRows.{level_for}
use Rattle.sq_road.specs.Draws.{draw_of}
use Rattle.sq_model.specs.FullStreams.{full_arc}
use Rattle.sq_model.specs.Shedding.{Replay, is_touched, last_of, touched_by, batch_level, is_dropped, full_at, record_of, shown}
use Rattle.sq_shard.proofs.Lists.{filter-swap, filter-under, filter-same, all-pass, map-same}
use Rattle.sq_slices.specs.Slices.{in_slice, slice, AgreeIn, SourcesAgree}
use Rattle.sq_slices.specs.Drops.{of_part, batch_begin, kept_until, epoch_before, BatchesAgree, SlicesShowTheSame, drops_begun, SlicesDropTheSame}
use Rattle.sq_slices.proofs.SliceLemmas.{narrower}

-- ---- lists

any-is : {X : Type 0} (p : X → Bool) (xs : List X) → list_any p xs ≡ ltb 0 (length (filter p xs))
any-is p [] = refl
any-is {X} p (x ∷ xs) = by (p x) (any-is p xs)
  where
    some : (n : ℕ) → true ≡ ltb 0 (suc n)
    some n = grind (arith, nat_tests)

    by : (c : Bool) → list_any p xs ≡ ltb 0 (length (filter p xs)) → (c || list_any p xs) ≡ ltb 0 (length (cond c (x ∷ filter p xs) (filter p xs)))
    by true more = some (length (filter p xs))
    by false more = more

-- two tests, one after the other
filter-filter : {X : Type 0} (p q : X → Bool) (xs : List X) → filter p (filter q xs) ≡ filter (λ x. p x && q x) xs
filter-filter p q [] = refl
filter-filter {X} p q (x ∷ xs) = by (filter-filter p q xs) (p x) (q x) refl refl
  where
    by : filter p (filter q xs) ≡ filter (λ x. p x && q x) xs → (a b : Bool) → p x ≡ a → q x ≡ b
        → filter p (cond b (x ∷ filter q xs) (filter q xs)) ≡ cond (a && b) (x ∷ filter (λ x. p x && q x) xs) (filter (λ x. p x && q x) xs)
    by more true true pa qb = ap (λ c. cond c (x ∷ filter p (filter q xs)) (filter p (filter q xs))) pa ∙ ap (λ zs. x ∷ zs) more
    by more true false pa qb = more
    by more false true pa qb = ap (λ c. cond c (x ∷ filter p (filter q xs)) (filter p (filter q xs))) pa ∙ more
    by more false false pa qb = more

pub filter-each : {X : Type 0} (p q : X → Bool) → ((x : X) → p x ≡ q x) → (xs : List X) → filter p xs ≡ filter q xs
filter-each p q h [] = refl
filter-each p q h (x ∷ xs) = ap (λ b. cond b (x ∷ filter p xs) (filter p xs)) (h x) ∙ ap (λ zs. cond (q x) (x ∷ zs) zs) (filter-each p q h xs)

-- numbers that don't pass add nothing
filter-past : (f : ℕ → Bool) (a n : ℕ) → ((k : ℕ) → a ≤ k → f k ≡ false) → filter f (range_with_len a n) ≡ []
filter-past f a zero h = refl
filter-past f a (suc n) h = ap (λ c. cond c (a ∷ filter f (range_with_len (a + 1) n)) (filter f (range_with_len (a + 1) n))) (h a (omega arith)) ∙ filter-past f (a + 1) n (λ k le. h k (omega (arith, le)))

filter-wider : (f : ℕ → Bool) (a m n : ℕ) → m ≤ n → ((k : ℕ) → a + m ≤ k → f k ≡ false) → filter f (range_with_len a n) ≡ filter f (range_with_len a m)
filter-wider f a zero n le h = filter-past f a n (λ k b. h k (omega (arith, b)))
filter-wider f a (suc m) zero le h = absurd (omega (arith, le))
filter-wider f a (suc m) (suc n) le h = ap (λ zs. cond (f a) (a ∷ zs) zs) (filter-wider f (a + 1) m n (omega (arith, le)) (λ k b. h k (omega (arith, b))))

-- two ranges, where a number behind either doesn't pass
filter-long : (f : ℕ → Bool) (m n : ℕ) → ((k : ℕ) → m ≤ k → f k ≡ false) → ((k : ℕ) → n ≤ k → f k ≡ false) → filter f (numbers_to m) ≡ filter f (numbers_to n)
filter-long f m n h g =
    elim (cases_lt m n) [
      | inl less ↦ sym (filter-wider f 0 m n (omega (arith, less)) (λ k late. h k (omega (arith, late))))
      | inr past ↦ filter-wider f 0 n m past (λ k late. g k (omega (arith, late)))
    ]

-- ---- batches

any-early : (u v : ℕ) (xs : List Tuple) → list_any (in_slice u v) xs ≡ true → u ≤ last_of xs
any-early u v [] h = absurd (cc h)
any-early u v (x ∷ xs) h = by (in_slice u v x) refl h (any-early u v xs)
  where
    first : (u v t : ℕ) → (leb u t && ltb t v) ≡ true → u ≤ t
    first u v t h = grind (arith, nat_tests)

    by : (c : Bool) → in_slice u v x ≡ c → (c || list_any (in_slice u v) xs) ≡ true → (list_any (in_slice u v) xs ≡ true → u ≤ last_of xs) → u ≤ max x.time (last_of xs)
    by true e h more = let low = first u v x.time e in omega (arith, low)
    by false e h more = let low = more h in omega (arith, low)

-- a batch is in the record where it is touched and dropped
in-record : (r : Replay) (w : ℕ) (p : DropPoint) → 1 ≤ p.length → (k : ℕ) → contains_number (record_of r w p) k ≡ (is_dropped r w p k && is_touched p (full_at r p.at) k)
in-record r w p some k =
    let xs = full_at r p.at in
    contains_filter (is_dropped r w p) (touched_by p xs) k
    ∙ ap (λ z. z && is_dropped r w p k) (contains_filter (is_touched p xs) (numbers_to (last_of xs / p.length + 1)) k ∙ by (is_touched p xs k) refl)
    ∙ swap (is_touched p xs k) (is_dropped r w p k)
  where
    swap : (c d : Bool) → (c && d) ≡ (d && c)
    swap true true = refl
    swap true false = refl
    swap false true = refl
    swap false false = refl

    none : (c : Bool) → (c && false) ≡ false
    none true = refl
    none false = refl

    by : (c : Bool) → is_touched p (full_at r p.at) k ≡ c → (contains_number (numbers_to (last_of (full_at r p.at) / p.length + 1)) k && c) ≡ c
    by true e =
        let low = any-early (k * p.length) (until_of p k) (full_at r p.at) e in
        let few = le-div k (last_of (full_at r p.at)) p.length some low in
        ap (λ z. z && true) (contains-range 0 (last_of (full_at r p.at) / p.length + 1) k (omega arith) (omega (arith, few)))
    by false e = none (contains_number (numbers_to (last_of (full_at r p.at) / p.length + 1)) k)

touched-same : (p : DropPoint) (k : ℕ) (xs ys : List Tuple) → AgreeIn (k * p.length) (until_of p k) xs ys → is_touched p xs k ≡ is_touched p ys k
touched-same p k xs ys e =
    any-is (in_slice (k * p.length) (until_of p k)) xs ∙ ap (λ (zs : List Tuple). ltb 0 (length zs)) e ∙ sym (any-is (in_slice (k * p.length) (until_of p k)) ys)

-- ---- plans

count-is : (f : Tuple → Bool) (xs : List Tuple) → count_by f xs ≡ length (filter f xs)
count-is f xs = sym (length-filter f xs)

in-epoch : (lo hi e E t : ℕ) → 1 ≤ E → lo ≤ e * E → (e + 1) * E ≤ hi → eqb (t / E) e ≡ true → (leb lo t && ltb t hi) ≡ true
in-epoch lo hi e E t some low high h =
    let is = eq_from (t / E) e h in
    let parts : t / E * E + t % E ≡ t = div-add-mod' t E in
    let left : t % E < E = mod-lt t some in
    let same : t / E * E ≡ e * E = ap (λ q. q * E) is in
    let next = once e E in
    tests lo hi t (omega (arith, parts, same, low)) (omega (arith, parts, same, left, next, high))
  where
    once : (e E : ℕ) → (e + 1) * E ≡ e * E + E
    once e E = grind arith

    tests : (lo hi t : ℕ) → lo ≤ t → t < hi → (leb lo t && ltb t hi) ≡ true
    tests lo hi t h k = grind (arith, nat_tests)

count-same : (lo hi e E : ℕ) → 1 ≤ E → lo ≤ e * E → (e + 1) * E ≤ hi → (xs ys : List Tuple) → AgreeIn lo hi xs ys → count_by (λ x. eqb (x.time / E) e) xs ≡ count_by (λ x. eqb (x.time / E) e) ys
count-same lo hi e E some low high xs ys agree =
    let f : Tuple → Bool = λ x. eqb (x.time / E) e in
    let under = filter-under (in_slice lo hi) f (λ x h. in-epoch lo hi e E x.time some low high h) in
    count-is f xs ∙ ap (λ (zs : List Tuple). length zs) (sym (under xs) ∙ ap (filter f) agree ∙ under ys) ∙ sym (count-is f ys)

pub counts-same : (lo hi e E : ℕ) → 1 ≤ E → lo ≤ e * E → (e + 1) * E ≤ hi → (xss yss : List (List Tuple)) → length yss ≡ length xss → SourcesAgree lo hi xss yss
    → map (count_by (λ x. eqb (x.time / E) e)) xss ≡ map (count_by (λ x. eqb (x.time / E) e)) yss
counts-same lo hi e E some low high [] [] count agree = refl
counts-same lo hi e E some low high [] (ys ∷ yss) count agree = absurd (omega (arith, count))
counts-same lo hi e E some low high (xs ∷ xss) [] count agree = absurd (omega (arith, count))
counts-same lo hi e E some low high (xs ∷ xss) (ys ∷ yss) count agree =
    ap (λ c. c ∷ map (count_by (λ x. eqb (x.time / E) e)) xss) (count-same lo hi e E some low high xs ys (agree 0))
    ∙ ap (λ cs. count_by (λ x. eqb (x.time / E) e) ys ∷ cs) (counts-same lo hi e E some low high xss yss (omega (arith, count)) (λ s. agree (suc s)))

module _ (r : Replay) (part : List (List Tuple)) (a b w : ℕ) (p : DropPoint) (agree : BatchesAgree r part a b (Some (w, p))) where
  level-same : (k : ℕ) → a / p.length ≤ k → k * p.length < b → batch_level r (k * p.length / r.network.epoch) w ≡ batch_level (of_part r part) (k * p.length / r.network.epoch) w
  level-same k low high = by (k * p.length / r.network.epoch) refl
    where
      by : (e : ℕ) → k * p.length / r.network.epoch ≡ e → batch_level r e w ≡ batch_level (of_part r part) e w
      by zero is = refl
      by (suc e) is =
          let E = r.network.epoch in
          let first = times_up (a / p.length) k p.length low in
          let from : batch_begin p a / E ≤ k * p.length / E = le-div (batch_begin p a / E) (k * p.length) E agree.1 (let h = div-mul-le_self (batch_begin p a) E in omega (arith, h, first)) in
          let back : epoch_before r (batch_begin p a) ≤ e * E = times_up (batch_begin p a / E - 1) e E (omega (arith, from, is)) in
          let whole : k * p.length / E * E ≤ k * p.length = div-mul-le_self (k * p.length) E in
          let end : (e + 1) * E ≡ k * p.length / E * E = ap (λ q. q * E) (let s : e + 1 ≡ k * p.length / E = omega (arith, is) in s) in
          let counts = counts-same (epoch_before r (batch_begin p a)) b e E agree.1 back (omega (arith, whole, end, high)) r.sources part agree.2 agree.4 in
          ap (λ cs. level_for (setting_of r.network r.entries) (λ z. cs) (suc e) w) counts

  -- whether a batch of the slice is in the record
  fate-same : (k : ℕ) → a / p.length ≤ k → k * p.length < b
      → (is_dropped r w p k && is_touched p (full_at r p.at) k) ≡ (is_dropped (of_part r part) w p k && is_touched p (full_at (of_part r part) p.at) k)
  fate-same k first high =
      let last : k ≤ (b - 1) / p.length = le-div k (b - 1) p.length agree.0 (omega (arith, high)) in
      let from = times_up (a / p.length) k p.length first in
      let to = times_up (k + 1) ((b - 1) / p.length + 1) p.length (omega (arith, last)) in
      ap (λ l. ltb (draw_of r.seed w k) l && is_touched p (full_at r p.at) k) (level-same k first high)
      ∙ ap (λ c. is_dropped (of_part r part) w p k && c)
      (touched-same p k (full_at r p.at) (full_at (of_part r part) p.at)
      (narrower (batch_begin p a) (kept_until p b) (k * p.length) (until_of p k) from (omega (arith, to)) (full_at r p.at) (full_at (of_part r part) p.at) agree.3))

  dropped-same : (x : Tuple) → in_slice a b x ≡ true → contains_number (record_of r w p) (x.time / p.length) ≡ contains_number (record_of (of_part r part) w p) (x.time / p.length)
  dropped-same x here =
      let k = x.time / p.length in
      let parts = and_true (leb a x.time) (ltb x.time b) here in
      let low = leb_from a x.time parts.0 in
      let high = less x.time b parts.1 in
      let begin : k * p.length ≤ x.time = div-mul-le_self x.time p.length in
      let first : a / p.length ≤ k = le-div (a / p.length) x.time p.length agree.0 (let h = div-mul-le_self a p.length in omega (arith, h, low)) in
      in-record r w p agree.0 k ∙ fate-same k first (omega (arith, begin, high)) ∙ sym (in-record (of_part r part) w p agree.0 k)
    where
      less : (t b : ℕ) → ltb t b ≡ true → t < b
      less t b h = grind (arith, nat_tests)

  shown-same : (xs ys : List Tuple) → AgreeIn a b xs ys → AgreeIn a b (shown r (Some (w, p)) xs) (shown (of_part r part) (Some (w, p)) ys)
  shown-same xs ys e =
      let q : Tuple → Bool = λ x. not (contains_number (record_of r w p) (x.time / p.length)) in
      let s : Tuple → Bool = λ x. not (contains_number (record_of (of_part r part) w p) (x.time / p.length)) in
      filter-swap (in_slice a b) q xs ∙ ap (filter q) e
      ∙ filter-same q s (slice a b ys) (all_weaker (λ x. in_slice a b x ≡ true) (λ x. q x ≡ s x) (λ x here. ap not (dropped-same x here)) (slice a b ys) (all-pass (in_slice a b) ys))
      ∙ sym (filter-swap (in_slice a b) s ys)

  -- ---- the record itself

  abbrev begins : ℕ → Bool
  begins k = leb a (k * p.length) && ltb (k * p.length) b

  from-begin : (k : ℕ) → begins k ≡ true → (a / p.length ≤ k) × (k * p.length < b)
  from-begin k h =
      let parts = and_true (leb a (k * p.length)) (ltb (k * p.length) b) h in
      (low (leb_from a (k * p.length) parts.0), less (k * p.length) b parts.1)
    where
      less : (t b : ℕ) → ltb t b ≡ true → t < b
      less t b h = grind (arith, nat_tests)

      once : (k e : ℕ) → (k + 1) * e ≡ k * e + e
      once k e = grind arith

      low : a ≤ k * p.length → a / p.length ≤ k
      low h =
          elim (cases_lt k (a / p.length)) [
            | inl more ↦ (
                let up = times_up (k + 1) (a / p.length) p.length (omega (arith, more)) in
                let whole = div-mul-le_self a p.length in
                let e = once k p.length in
                let some = agree.0 in
                absurd (omega (arith, up, whole, e, some, h)))
            | inr past ↦ past
          ]

  abbrev fate : Replay → ℕ → Bool
  fate v k = begins k && (is_dropped v w p k && is_touched p (full_at v p.at) k)

  fates-same : (k : ℕ) → fate r k ≡ fate (of_part r part) k
  fates-same k = by (begins k) refl
    where
      by : (c : Bool) → begins k ≡ c → (c && (is_dropped r w p k && is_touched p (full_at r p.at) k)) ≡ (c && (is_dropped (of_part r part) w p k && is_touched p (full_at (of_part r part) p.at) k))
      by true e = let h = from-begin k e in fate-same k h.0 h.1
      by false e = refl

  abbrev count_of : Replay → ℕ
  count_of v = last_of (full_at v p.at) / p.length + 1

  -- no batch behind the last tuple is touched
  fate-late : (v : Replay) (k : ℕ) → count_of v ≤ k → fate v k ≡ false
  fate-late v k late = by (is_touched p (full_at v p.at) k) refl
    where
      none : (c d : Bool) → (c && (d && false)) ≡ false
      none true true = refl
      none true false = refl
      none false d = refl

      by : (c : Bool) → is_touched p (full_at v p.at) k ≡ c → (begins k && (is_dropped v w p k && c)) ≡ false
      by true e =
          let low = any-early (k * p.length) (until_of p k) (full_at v p.at) e in
          let few = le-div k (last_of (full_at v p.at)) p.length agree.0 low in
          absurd (omega (arith, few, late))
      by false e = none (begins k) (is_dropped v w p k)

  record-is : (v : Replay) → filter begins (record_of v w p) ≡ filter (fate v) (numbers_to (count_of v))
  record-is v =
      ap (filter begins) (filter-filter (is_dropped v w p) (is_touched p (full_at v p.at)) (numbers_to (count_of v)))
      ∙ filter-filter begins (λ k. is_dropped v w p k && is_touched p (full_at v p.at) k) (numbers_to (count_of v))

  records-same : filter begins (record_of r w p) ≡ filter begins (record_of (of_part r part) w p)
  records-same =
      let v = of_part r part in
      record-is r ∙ filter-each (fate r) (fate v) fates-same (numbers_to (count_of r))
      ∙ filter-long (fate v) (count_of r) (count_of v) (λ k late. sym (fates-same k) ∙ fate-late r k late) (fate-late v)
      ∙ sym (record-is v)

  pub drops-same : drops_begun r w p a b ≡ drops_begun (of_part r part) w p a b
  drops-same =
      let v = of_part r part in
      map-same (λ k. begins k ≡ true) (λ k. drop_line w k (batch_level r (k * p.length / r.network.epoch) w)) (λ k. drop_line w k (batch_level v (k * p.length / r.network.epoch) w))
      (λ k h. (let at = from-begin k h in ap (λ l. drop_line w k l) (level-same k at.0 at.1)))
      (filter begins (record_of r w p)) (all-pass begins (record_of r w p))
      ∙ ap (map (λ k. drop_line w k (batch_level v (k * p.length / r.network.epoch) w))) records-same

pub drop-same : (r : Replay) → SlicesDropTheSame r
drop-same r part w p a b agree = drops-same r part a b w p agree

pub show-same : (r : Replay) → SlicesShowTheSame r
show-same r part o a b batches agree = by (drop_above_output r.network o) batches
  where
    by : (d : Option (ℕ × DropPoint)) → BatchesAgree r part a b d
        → AgreeIn a b (shown r d (full_arc r.network r.sources (output_arc_at r.network.wires o))) (shown (of_part r part) d (full_arc r.network part (output_arc_at r.network.wires o)))
    by None h = agree
    by (Some d) h = shown-same r part a b d.0 d.1 h (full_arc r.network r.sources (output_arc_at r.network.wires o)) (full_arc r.network part (output_arc_at r.network.wires o)) agree
