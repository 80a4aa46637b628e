-- Plans: what was shown of them, and what a release leaves of them.
use Rattle.std.proofs.Common.{◌≡◌, ◌≢◌, ℕ, zero, suc, ◌+◌, ◌-◌, ◌/◌, ◌≤◌, ◌<◌, max, eqb, cond, Bool, true, List, [], ◌∷◌, ◌++◌, map, length, set, replicate, Some, refl, ap, sym, ◌∙◌, subst, mul_comm, le_trans, arith}
use Rattle.std.specs.Prelude.{slice_get, slice_index}
use Rattle.std.specs.List.{flat_map, range_with_len, count_by}
use Rattle.std.proofs.Math.Nat.{mul-div-le}
use Rattle.std.proofs.lemmas.Nat.{le-div}
use Rattle.std.proofs.lemmas.Option.{same_Some}
use Rattle.std.proofs.lemmas.Grind.{flat_map-append}
use Rattle.std.proofs.lemmas.List.Sums.{sum_by-cons}
use Rattle.sq_value.specs.declared.Tuple.{Tuple}
use Rattle.sq_words.specs.Lists.{max_by}
use Rattle.sq_left.proofs.MergeLemmas.{eqb-not}
use Rattle.sq_plan.specs.PlanRows.{is_quiet}
use Rattle.sq_replay.specs.RecordedTuples.{Recorded}
use Rattle.sq_flow.specs.Flows.{tuples_to_come, RiseFrom}
use Rattle.sq_plan.specs.Arrivals.{arrivals}
use Rattle.sq_flow.specs.Plans.{last_arrival, add_counts}
use Rattle.sq_flow.specs.Sources.{BeginsNotBefore}
use Rattle.sq_words.proofs.Ranges.{range_split}
use Rattle.sq_words.proofs.Numbers.{eqb_true}

-- numbers
pub div-low : (a b k : ℕ) → 0 < k → a ≤ b → a / k ≤ b / k
div-low a b k pos le = le-div (a / k) b k pos (subst (λ v. v ≤ b) (mul_comm k (a / k)) (le_trans (mul-div-le a k) le))

-- functions that agree from a number on
pub flat-same : {A : Type 0} (f g : ℕ → List A) (a n : ℕ) → ((y : ℕ) → a ≤ y → f y ≡ g y) → flat_map f (range_with_len a n) ≡ flat_map g (range_with_len a n)
flat-same f g a zero h = refl
flat-same f g a (suc n) h =
    ap (λ z. z ++ flat_map f (range_with_len (a + 1) n)) (h a (omega arith))
    ∙ ap (λ z. g a ++ z) (flat-same f g (a + 1) n (λ y le. h y (omega (arith, le))))

-- a range of plans, cut where the next epoch begins
pub plans-cut : {A : Type 0} (f g : ℕ → List A) (open_epoch next last : ℕ) → open_epoch ≤ next → ((y : ℕ) → next ≤ y → f y ≡ g y)
    → flat_map f (range_with_len open_epoch (max next last - open_epoch))
    ≡ flat_map f (range_with_len open_epoch (next - open_epoch)) ++ flat_map g (range_with_len next (last - next))
plans-cut f g open_epoch next last le h =
    ap (λ k. flat_map f (range_with_len open_epoch k)) parts
    ∙ ap (flat_map f) (range_split open_epoch (next - open_epoch) (last - next))
    ∙ flat_map-append f (range_with_len open_epoch (next - open_epoch)) (range_with_len (open_epoch + (next - open_epoch)) (last - next))
    ∙ ap (λ z. flat_map f (range_with_len open_epoch (next - open_epoch)) ++ z)
    (ap (λ k. flat_map f (range_with_len k (last - next))) there ∙ flat-same f g next (last - next) h)
  where
    parts : max next last - open_epoch ≡ (next - open_epoch) + (last - next)
    parts = omega (arith, le)

    there : open_epoch + (next - open_epoch) ≡ next
    there = omega (arith, le)

-- tuples that rise, from the first of them on
pub rise-later : (from time : ℕ) (ts : List Tuple) → RiseFrom from ts → BeginsNotBefore time ts → RiseFrom time ts
rise-later from time [] h le = tt
rise-later from time (x ∷ ts) h le = (le, h.1, h.2)

-- counts
abbrev pub streams : List Recorded → List (List Tuple)
streams sources = map (λ tuples. tuples.items) sources

count-cons : (p : Tuple → Bool) (x : Tuple) (xs : List Tuple) → count_by p (x ∷ xs) ≡ cond (p x) 1 0 + count_by p xs
count-cons p x xs = sum_by-cons (λ y. cond (p y) 1 0) x xs

none-add : (k : ℕ) → 0 + k ≡ k
none-add k = omega arith

pub add-zeros : (n : ℕ) (ys : List ℕ) → length ys ≡ n → add_counts (replicate n 0) ys ≡ ys
add-zeros zero ys h = refl
add-zeros (suc n) (y ∷ ys) h = ap (λ k. k ∷ add_counts (replicate n 0) ys) (none-add y) ∙ ap (λ l. y ∷ l) (add-zeros n ys (omega (arith, h)))
add-zeros (suc n) [] h = absurd (omega (arith, h))

pub zeros-more : (xs : List ℕ) (n : ℕ) → length xs ≡ n → add_counts xs (replicate n 0) ≡ xs
zeros-more [] zero h = refl
zeros-more [] (suc n) h = absurd (omega (arith, h))
zeros-more (x ∷ xs) zero h = absurd (omega (arith, h))
zeros-more (x ∷ xs) (suc n) h = ap (λ k. k ∷ add_counts xs (replicate n 0)) (add-none x) ∙ ap (λ l. x ∷ l) (zeros-more xs n (omega (arith, h)))
  where
    add-none : (k : ℕ) → k + 0 ≡ k
    add-none k = omega arith

pub arrivals-len : (epoch e : ℕ) (sources : List Recorded) → length (arrivals epoch (streams sources) e) ≡ length sources
arrivals-len epoch e [] = refl
arrivals-len epoch e (s ∷ sources) = ap suc (arrivals-len epoch e sources)

pub quiet-zeros : (n : ℕ) → is_quiet (replicate n 0) ≡ true
quiet-zeros zero = refl
quiet-zeros (suc n) = quiet-zeros n

-- where all tuples are of later epochs none arrives in this one
module _ (epoch e : ℕ) (pos : 0 < epoch) where
  none-of : (time : ℕ) (xs : List Tuple) → e < time / epoch → RiseFrom time xs → count_by (λ x. eqb (x.time / epoch) e) xs ≡ 0
  none-of time [] later rise = refl
  none-of time (x ∷ xs) later rise =
      let low = div-low time x.time epoch pos rise.0 in
      let after : e < x.time / epoch = omega (arith, low, later) in
      let apart : x.time / epoch ≢ e = omega (arith, after) in
      count-cons (λ y. eqb (y.time / epoch) e) x xs
      ∙ ap (λ b. cond b 1 0 + count_by (λ y. eqb (y.time / epoch) e) xs) (eqb-not (x.time / epoch) e apart)
      ∙ none-add (count_by (λ y. eqb (y.time / epoch) e) xs)
      ∙ none-of x.time xs after rise.2

  pub none-arrive : (time : ℕ) (sources : List Recorded) → e < time / epoch → ((source : ℕ) → RiseFrom time (tuples_to_come (slice_get sources source)))
      → arrivals epoch (streams sources) e ≡ replicate (length sources) 0
  none-arrive time [] later rise = refl
  none-arrive time (s ∷ sources) later rise =
      ap (λ k. k ∷ arrivals epoch (streams sources) e) (none-of time s.items later (rise 0))
      ∙ ap (λ l. 0 ∷ l) (none-arrive time sources later (λ source. rise (suc source)))

-- a source of which one tuple is taken
module _ (epoch : ℕ) (v more : Recorded) (x : Tuple) (front : v.items ≡ x ∷ more.items) where
  took : (e : ℕ) → count_by (λ y. eqb (y.time / epoch) e) v.items ≡ cond (eqb (x.time / epoch) e) 1 0 + count_by (λ y. eqb (y.time / epoch) e) more.items
  took e = ap (count_by (λ y. eqb (y.time / epoch) e)) front ∙ count-cons (λ y. eqb (y.time / epoch) e) x more.items

  pub arrivals-other : (e : ℕ) (sources : List Recorded) (port : ℕ) → slice_get sources port ≡ Some v → x.time / epoch ≢ e
      → arrivals epoch (streams (set sources port more)) e ≡ arrivals epoch (streams sources) e
  arrivals-other e [] port is apart = refl
  arrivals-other e (s ∷ sources) zero is apart =
      let same : s ≡ v = same_Some s v is in
      ap (λ k. k ∷ arrivals epoch (streams sources) e)
      (sym (ap (λ (d : Recorded). count_by (λ y. eqb (y.time / epoch) e) d.items) same ∙ took e
      ∙ ap (λ b. cond b 1 0 + count_by (λ y. eqb (y.time / epoch) e) more.items) (eqb-not (x.time / epoch) e apart)
      ∙ none-add (count_by (λ y. eqb (y.time / epoch) e) more.items)))
  arrivals-other e (s ∷ sources) (suc port) is apart = ap (λ l. count_by (λ y. eqb (y.time / epoch) e) s.items ∷ l) (arrivals-other e sources port is apart)

  -- it is counted where it was to arrive
  pub counted-one : (e : ℕ) (sources : List Recorded) (counts : List ℕ) (port : ℕ) → slice_get sources port ≡ Some v → x.time / epoch ≡ e → length counts ≡ length sources
      → add_counts (set counts port (slice_index counts port + 1)) (arrivals epoch (streams (set sources port more)) e) ≡ add_counts counts (arrivals epoch (streams sources) e)
  counted-one e [] counts port is hit len = cc is
  counted-one e (s ∷ sources) [] port is hit len = absurd (omega (arith, len))
  counted-one e (s ∷ sources) (c ∷ counts) zero is hit len =
      let same : s ≡ v = same_Some s v is in
      ap (λ k. k ∷ add_counts counts (arrivals epoch (streams sources) e))
      (one-more c (count_by (λ y. eqb (y.time / epoch) e) more.items)
      ∙ ap (λ b. c + (cond b 1 0 + count_by (λ y. eqb (y.time / epoch) e) more.items)) (sym (eqb_true (x.time / epoch) e hit))
      ∙ ap (λ k. c + k) (sym (ap (λ (d : Recorded). count_by (λ y. eqb (y.time / epoch) e) d.items) same ∙ took e)))
    where
      one-more : (c k : ℕ) → c + 1 + k ≡ c + (1 + k)
      one-more c k = omega arith
  counted-one e (s ∷ sources) (c ∷ counts) (suc port) is hit len =
      ap (λ l. (c + count_by (λ y. eqb (y.time / epoch) e) s.items) ∷ l) (counted-one e sources counts port is hit (omega (arith, len)))

  pub last-taken : (sources : List Recorded) (port : ℕ) → slice_get sources port ≡ Some v
      → last_arrival epoch (streams sources) ≡ max (x.time / epoch) (last_arrival epoch (streams (set sources port more)))
  last-taken [] port is = cc is
  last-taken (s ∷ sources) zero is =
      let same : s ≡ v = same_Some s v is in
      let top = ap (λ (d : Recorded). max_by (λ y. y.time / epoch) d.items) same ∙ ap (max_by (λ y. y.time / epoch)) front in
      ap (λ k. max k (last_arrival epoch (streams sources))) top
      ∙ both (x.time / epoch) (max_by (λ y. y.time / epoch) more.items) (last_arrival epoch (streams sources))
    where
      both : (a b c : ℕ) → max (max a b) c ≡ max a (max b c)
      both a b c = omega arith
  last-taken (s ∷ sources) (suc port) is =
      ap (λ k. max (max_by (λ y. y.time / epoch) s.items) k) (last-taken sources port is)
      ∙ turn (max_by (λ y. y.time / epoch) s.items) (x.time / epoch) (last_arrival epoch (streams (set sources port more)))
    where
      turn : (a b c : ℕ) → max a (max b c) ≡ max b (max a c)
      turn a b c = omega arith
