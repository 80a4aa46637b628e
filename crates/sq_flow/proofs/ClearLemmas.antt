-- Tests of all numbers below one, and of some; and which source is wanted.
use Rattle.std.proofs.Common.{◌≡◌, ℕ, zero, suc, ◌+◌, ◌<◌, Bool, true, false, ◌||◌, List, [], ◌∷◌, Option, Some, None, length, refl, ap, sym, ◌∙◌, add-one, arith}
use borrow.Author.Count.{below_more}
use Rattle.std.proofs.lemmas.Bool.{or_right}
use Rattle.std.specs.Prelude.{is_some, slice_get}
use Rattle.sq_value.specs.declared.Tuple.{Tuple}
use Rattle.sq_replay.specs.RecordedTuples.{Recorded, first_recorded}
use Rattle.sq_flow.specs.Flows.{more_from, tuples_to_come}
use Rattle.sq_flow.specs.Sources.{all_below, some_below, holds_none, is_clear_of, IsWanted}
use Rattle.sq_words.proofs.Bools.{and_true}

pub below-at : (p : ℕ → Bool) (n k : ℕ) → all_below p n ≡ true → k < n → p k ≡ true
below-at p zero k all low = absurd (omega (arith, low))
below-at p (suc n) k all low =
    let both = and_true (all_below p n) (p n) all in
    below_more (λ j. p j ≡ true) n (λ j less. below-at p n j both.0 less) both.1 k (omega (arith, low))

pub all-not : (p : ℕ → Bool) (n k : ℕ) → p k ≡ false → k < n → all_below p n ≡ false
all-not p n k here low = by (all_below p n) refl
  where
    by : (b : Bool) → all_below p n ≡ b → b ≡ false
    by false h = refl
    by true h = cc (sym (below-at p n k h low) ∙ here)

pub some-at : (p : ℕ → Bool) (n : ℕ) → some_below p n ≡ true → (k : ℕ) × ((k < n) × (p k ≡ true))
some-at p zero h = cc h
some-at p (suc n) h = by (some-at p n) (some_below p n) refl
  where
    by : (some_below p n ≡ true → (k : ℕ) × ((k < n) × (p k ≡ true))) → (b : Bool) → some_below p n ≡ b → (k : ℕ) × ((k < suc n) × (p k ≡ true))
    by less true here = let r = less here in let low = r.1.0 in (r.0, (omega (arith, low), r.1.1))
    by less false none = (n, (omega arith, sym (ap (λ b. b || p n) none) ∙ h))

pub some-from : (p : ℕ → Bool) (n k : ℕ) → p k ≡ true → k < n → some_below p n ≡ true
some-from p zero k here low = absurd (omega (arith, low))
some-from p (suc n) k here low =
    below_more (λ j. p j ≡ true → some_below p (suc n) ≡ true) n (λ j less at. ap (λ b. b || p n) (some-from p n j at less)) (or_right (some_below p n) (p n))
    k (omega (arith, low)) here

-- of some number below one, or of it
pub some-more : (p : ℕ → Bool) (n : ℕ) (was now : Bool) → was ≡ some_below p n → now ≡ (was || p n) → now ≡ some_below p (n + 1)
some-more p n was now before here = here ∙ ap (λ b. b || p n) before ∙ sym (ap (some_below p) (add-one n))

-- of no number below one, nor of it
pub some-next : (p : ℕ → Bool) (n : ℕ) → some_below p n ≡ false → p n ≡ false → some_below p (n + 1) ≡ false
some-next p n none here = ap (some_below p) (add-one n) ∙ ap (λ b. b || p n) none ∙ here

-- a source that holds back another
pub is-wanted : (sources : List Recorded) (ahead : List (Option ℕ)) (source : ℕ) → source < length sources → is_clear_of sources ahead source ≡ false → IsWanted sources ahead source
is-wanted sources ahead source low held = by (tuples_to_come (slice_get sources source)) refl (more_from (slice_get ahead source)) refl held
  where
    by : (xs : List Tuple) → tuples_to_come (slice_get sources source) ≡ xs → (o : Option ℕ) → more_from (slice_get ahead source) ≡ o → holds_none sources source (first_recorded xs) o ≡ false
        → IsWanted sources ahead source
    by (x ∷ xs) known o may h = cc h
    by [] known None may h = cc h
    by [] known (Some from) may h = record { there = low; bare = known; more = ap (λ (o : Option ℕ). is_some o) may }
