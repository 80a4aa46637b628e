-- The source that releases next, as far as the sources were looked at.
use Rattle.std.proofs.Common.{◌≡◌, ℕ, ◌+◌, ◌<◌, ◌≤◌, Bool, true, false, ltb, List, [], ◌∷◌, Option, Some, None, length, refl, arith}
use Rattle.std.specs.Prelude.{slice_get, is_some, IfSome}
use Rattle.std.proofs.lemmas.Option.{slice_get_past, same_Some}
use Rattle.std.proofs.lemmas.Bool.Decides.{nat_tests}
use borrow.Author.Count.{below_more}
use Rattle.sq_value.specs.declared.Tuple.{Tuple}
use Rattle.sq_replay.specs.RecordedTuples.{Recorded, first_recorded}
use Rattle.sq_flow.specs.Flows.{tuples_to_come}
use Rattle.sq_flow.specs.Sources.{BeginsNotBefore, BeginsAfter, BeginsLeast, IsNextSource}

-- of the first sources none begins, or this one does at this time, those before it later and none earlier
abbrev pub IsBest : List Recorded → ℕ → ℕ → Option ℕ → Type 0
IsBest sources n least None = (other : ℕ) → other < n → tuples_to_come (slice_get sources other) ≡ []
IsBest sources n least (Some best) =
    (best < n) × (first_recorded (tuples_to_come (slice_get sources best)) ≡ Some least)
    × ((other : ℕ) → other < n → BeginsNotBefore least (tuples_to_come (slice_get sources other)))
    × ((other : ℕ) → other < best → BeginsAfter least (tuples_to_come (slice_get sources other)))

after-from : (time least : ℕ) (ts : List Tuple) → time < least → BeginsNotBefore least ts → BeginsAfter time ts
after-from time least [] lt h = tt
after-from time least (x ∷ xs) lt h = omega arith

not_before-from : (time : ℕ) (ts : List Tuple) → BeginsAfter time ts → BeginsNotBefore time ts
not_before-from time [] h = tt
not_before-from time (x ∷ xs) h = omega arith

begins-from : (time least : ℕ) (ts : List Tuple) → first_recorded ts ≡ Some time → least ≤ time → BeginsNotBefore least ts
begins-from time least [] at le = tt
begins-from time least (x ∷ xs) at le = let same = same_Some x.time time at in omega (arith, same, le)

module _ (sources : List Recorded) (n least : ℕ) where
  -- a source with nothing left
  pub best-past : (best : Option ℕ) → tuples_to_come (slice_get sources n) ≡ [] → IsBest sources n least best → IsBest sources (n + 1) least best
  best-past None e h = below_more (λ other. tuples_to_come (slice_get sources other) ≡ []) n h e
  best-past (Some best) e h =
      (omega (arith, h.0), h.1, below_more (λ other. BeginsNotBefore least (tuples_to_come (slice_get sources other))) n h.2 (rw e tt), h.3)

  -- one that begins no earlier than the best
  pub best-stays : (best : Option ℕ) (time : ℕ) → first_recorded (tuples_to_come (slice_get sources n)) ≡ Some time → is_some best ≡ true → least ≤ time
      → IsBest sources n least best → IsBest sources (n + 1) least best
  best-stays None time at some le h = cc some
  best-stays (Some best) time at some le h =
      (omega (arith, h.0), h.1, below_more (λ other. BeginsNotBefore least (tuples_to_come (slice_get sources other))) n h.2 (begins-from time least _ at le), h.3)

  -- the first that begins, or one that begins earlier
  pub best-first : (best : Option ℕ) (time : ℕ) → first_recorded (tuples_to_come (slice_get sources n)) ≡ Some time → is_some best ≡ false
      → IsBest sources n least best → IsBest sources (n + 1) time (Some n)
  best-first (Some best) time at none h = cc none
  best-first None time at none h =
      let itself : time ≤ time = omega arith in (
        omega arith,
        at,
        below_more (λ other. BeginsNotBefore time (tuples_to_come (slice_get sources other))) n (λ other low. rw (h other low) tt) (begins-from time time _ at itself),
        λ other low. rw (h other low) tt,
      )

  pub best-new : (best : Option ℕ) (time : ℕ) → first_recorded (tuples_to_come (slice_get sources n)) ≡ Some time → time < least
      → IsBest sources n least best → IsBest sources (n + 1) time (Some n)
  best-new None time at less h = best-first None time at refl h
  best-new (Some best) time at less h =
      let itself : time ≤ time = omega arith in
      let after = λ (other : ℕ) (low : other < n). after-from time least (tuples_to_come (slice_get sources other)) less (h.2 other low) in (
        omega arith,
        at,
        below_more (λ other. BeginsNotBefore time (tuples_to_come (slice_get sources other))) n
            (λ other low. not_before-from time (tuples_to_come (slice_get sources other)) (after other low)) (begins-from time time _ at itself),
        after,
      )

nothing-past : (sources : List Recorded) (n other : ℕ) → length sources ≤ n → n ≤ other → tuples_to_come (slice_get sources other) ≡ []
nothing-past sources n other le past = rw (slice_get_past sources other (omega arith)) refl

-- all sources were looked at
pub best-none : (sources : List Recorded) (n least : ℕ) (best : Option ℕ) → length sources ≤ n → IsBest sources n least best → best ≡ None
    → (source : ℕ) → tuples_to_come (slice_get sources source) ≡ []
best-none sources n least (Some best) le h e source = cc e
best-none sources n least None le h e source = by (ltb source n) refl
  where
    by : (b : Bool) → ltb source n ≡ b → tuples_to_come (slice_get sources source) ≡ []
    by true t = h source (grind (arith, nat_tests, t))
    by false t = nothing-past sources n source le (grind (arith, nat_tests, t))

pub best-some : (sources : List Recorded) (n least : ℕ) (best : Option ℕ) → length sources ≤ n → n ≤ length sources → IsBest sources n least best
    → IfSome best (IsNextSource sources)
best-some sources n least None le ge h = tt
best-some sources n least (Some best) le ge h =
    record { there = omega (arith, h.0); least = by (tuples_to_come (slice_get sources best)) h.1 }
  where
    by : (ts : List Tuple) → first_recorded ts ≡ Some least → BeginsLeast sources best ts
    by [] at = cc at
    by (x ∷ xs) at =
        let same = same_Some x.time least at in (
          λ other. rw same (near (ltb other n) other refl),
          λ other low. rw same (h.3 other low),
        )
      where
        near : (b : Bool) (other : ℕ) → ltb other n ≡ b → BeginsNotBefore least (tuples_to_come (slice_get sources other))
        near true other t = h.2 other (grind (arith, nat_tests, t))
        near false other t = rw (nothing-past sources n other le (grind (arith, nat_tests, t))) tt

pub none-of : (xs : List Tuple) → first_recorded xs ≡ None → xs ≡ []
none-of [] at = refl
none-of (x ∷ xs) at = cc at
