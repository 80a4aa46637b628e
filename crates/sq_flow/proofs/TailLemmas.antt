-- Sources with what comes behind what is known of them.
use Rattle.std.proofs.Common.{◌≡◌, ℕ, zero, suc, ◌<◌, ◌≤◌, eqb, ltb, Bool, true, false, ◌&&◌, ◌||◌, ◌⊎◌, inl, inr, List, [], ◌∷◌, ◌++◌, length, set, Option, Some, None, refl, ap, sym, ◌∙◌, subst, arith}
use Rattle.std.specs.Prelude.{slice_get}
use Rattle.std.proofs.lemmas.Option.{slice_get_past, same_Some}
use Rattle.std.proofs.lemmas.Bool.Decides.{nat_tests}
use Rattle.std.proofs.lemmas.Map.Views.{exact_unsigned_eq}
use Rattle.sq_value.specs.declared.Tuple.{Tuple}
use Rattle.sq_replay.specs.RecordedTuples.{Recorded, first_recorded}
use Rattle.sq_left.specs.Heads.{key_before}
use Rattle.sq_words.proofs.Bools.{and_true}
use Rattle.sq_flow.specs.Flows.{RiseFrom, tuples_to_come, more_from}
use Rattle.sq_flow.specs.Sources.{BeginsNotBefore, BeginsAfter, BeginsLeast, IsNextSource, all_below, some_below, first_before, holds_none, is_clear_of, is_clear, none_known, is_wanted}
use Rattle.sq_flow.specs.Tails.{Tails, IsSourceTail, AreTails, sources_with, joined-length, closed}
use Rattle.sq_flow.proofs.ClearLemmas.{below-at, some-at}

-- ---- a source with its tail

pub joined-at : (tails : Tails) (sources : List Recorded) (k : ℕ) (v : Recorded) → slice_get sources k ≡ Some v
    → slice_get (sources_with tails sources) k ≡ Some (record { items = v.items ++ tails k })
joined-at tails [] k v is = cc is
joined-at tails (s ∷ sources) zero v is = ap {B = Option Recorded} (λ (d : Recorded). Some (record { items = d.items ++ tails 0 })) (same_Some s v is)
joined-at tails (s ∷ sources) (suc k) v is = joined-at (λ n. tails (suc n)) sources k v is

joined-past : (tails : Tails) (sources : List Recorded) (k : ℕ) → slice_get sources k ≡ None → slice_get (sources_with tails sources) k ≡ None
joined-past tails [] k is = refl
joined-past tails (s ∷ sources) zero is = cc is
joined-past tails (s ∷ sources) (suc k) is = joined-past (λ n. tails (suc n)) sources k is

-- what is to be released with the tail begins with what is known
joined-front : (tails : Tails) (sources : List Recorded) (k : ℕ) (x : Tuple) (xs : List Tuple) → tuples_to_come (slice_get sources k) ≡ x ∷ xs
    → tuples_to_come (slice_get (sources_with tails sources) k) ≡ x ∷ xs ++ tails k
joined-front tails [] k x xs is = cc is
joined-front tails (s ∷ sources) zero x xs is = ap (λ l. l ++ tails 0) is
joined-front tails (s ∷ sources) (suc k) x xs is = joined-front (λ n. tails (suc n)) sources k x xs is

-- where nothing is known it is the tail, where there is such a source
joined-bare : (tails : Tails) (sources : List Recorded) (k : ℕ) (P : List Tuple → Type 0) → tuples_to_come (slice_get sources k) ≡ [] → P (tails k) → P []
    → P (tuples_to_come (slice_get (sources_with tails sources) k))
joined-bare tails [] k P is tail none = none
joined-bare tails (s ∷ sources) zero P is tail none = subst (λ l. P (l ++ tails 0)) (sym is) tail
joined-bare tails (s ∷ sources) (suc k) P is tail none = joined-bare (λ n. tails (suc n)) sources k P is tail none

pub joined-set : (tails : Tails) (sources : List Recorded) (k : ℕ) (v : Recorded)
    → sources_with tails (set sources k v) ≡ set (sources_with tails sources) k (record { items = v.items ++ tails k })
joined-set tails [] k v = refl
joined-set tails (s ∷ sources) zero v = refl
joined-set tails (s ∷ sources) (suc k) v = ap (λ l. record { items = s.items ++ tails 0 } ∷ l) (joined-set (λ n. tails (suc n)) sources k v)

-- ---- which source releases next, whatever comes

-- this time of a source stands before a tick of another
abbrev Precedes : ℕ → ℕ → ℕ → ℕ → Type 0
Precedes time source from other = (time < from) ⊎ ((time ≡ from) × (source < other))

before-parts : (time source from other : ℕ) → key_before time source from other ≡ true → Precedes time source from other
before-parts time source from other h = by (ltb time from) refl
  where
    by : (b : Bool) → ltb time from ≡ b → Precedes time source from other
    by true less = inl (grind (arith, nat_tests, less))
    by false less =
        let both = and_true (eqb time from) (ltb source other) (sym (ap (λ b. b || (eqb time from && ltb source other)) less) ∙ h) in
        let low = both.1 in
        inr (exact_unsigned_eq time from both.0, grind (arith, nat_tests, low))

begins-at : (o : Option ℕ) (source from other : ℕ) → first_before o source from other ≡ true → (time : ℕ) × ((o ≡ Some time) × (key_before time source from other ≡ true))
begins-at None source from other h = cc h
begins-at (Some time) source from other h = (time, (refl, h))

rises-from : (from time : ℕ) (xs : List Tuple) → RiseFrom from xs → time ≤ from → BeginsNotBefore time xs
rises-from from time [] h le = tt
rises-from from time (x ∷ xs) h le = let low = h.0 in omega (arith, low, le)

rises-after : (from time : ℕ) (xs : List Tuple) → RiseFrom from xs → time < from → BeginsAfter time xs
rises-after from time [] h lt = tt
rises-after from time (x ∷ xs) h lt = let low = h.0 in omega (arith, low, lt)

first-not-before : (time first : ℕ) (xs : List Tuple) → first_recorded xs ≡ Some first → BeginsNotBefore time xs → time ≤ first
first-not-before time first [] is h = cc is
first-not-before time first (x ∷ xs) is h = let same = same_Some x.time first is in omega (arith, same, h)

first-after : (time first : ℕ) (xs : List Tuple) → first_recorded xs ≡ Some first → BeginsAfter time xs → time < first
first-after time first [] is h = cc is
first-after time first (x ∷ xs) is h = let same = same_Some x.time first is in omega (arith, same, h)

-- a source of which nothing is known and that holds back none: no more comes of it, or some known tuple precedes what may come
bare-clear : (sources : List Recorded) (ahead : List (Option ℕ)) (k : ℕ) (P : Option ℕ → Type 0) → is_clear sources ahead ≡ true → k < length sources → tuples_to_come (slice_get sources k) ≡ [] → P None
    → ((from time source : ℕ) → first_recorded (tuples_to_come (slice_get sources source)) ≡ Some time → Precedes time source from k → P (Some from)) → P (more_from (slice_get ahead k))
bare-clear sources ahead k P clear low none nothing behind =
    by (more_from (slice_get ahead k)) (subst (λ l. holds_none sources k (first_recorded l) (more_from (slice_get ahead k)) ≡ true) none (below-at (is_clear_of sources ahead) (length sources) k clear low))
  where
    by : (o : Option ℕ) → holds_none sources k None o ≡ true → P o
    by None h = nothing
    by (Some from) h =
        let some = some-at (λ other. first_before (first_recorded (tuples_to_come (slice_get sources other))) other from k) (length sources) h in
        let begins = begins-at (first_recorded (tuples_to_come (slice_get sources some.0))) some.0 from k some.1.1 in
        behind from begins.0 some.0 begins.1.0 (before-parts begins.0 some.0 from k begins.1.1)

-- as long as no source is wanted none holds back another
pub clear-unwanted : (sources : List Recorded) (ahead : List (Option ℕ)) → some_below (is_wanted sources ahead) (length sources) ≡ false → is_clear sources ahead ≡ true
clear-unwanted sources ahead = by (length sources)
  where
    one : (k : ℕ) (o from : Option ℕ) (b c : Bool) → (b ≡ false → c ≡ true) → (b || none_known o from) ≡ false → (c && holds_none sources k o from) ≡ true
    one k (Some time) from false c before h = ap (λ x. x && true) (before refl)
    one k None None false c before h = ap (λ x. x && true) (before refl)
    one k None (Some from) false c before h = cc h
    one k o from true c before h = cc h

    by : (n : ℕ) → some_below (is_wanted sources ahead) n ≡ false → all_below (is_clear_of sources ahead) n ≡ true
    by zero h = refl
    by (suc n) h =
        one n (first_recorded (tuples_to_come (slice_get sources n))) (more_from (slice_get ahead n)) (some_below (is_wanted sources ahead) n) (all_below (is_clear_of sources ahead) n) (by n) h

module _ (tails : Tails) (sources : List Recorded) (ahead : List (Option ℕ)) (clear : is_clear sources ahead ≡ true) (may : AreTails ahead tails) where
  -- how a source begins by what is known it begins whatever comes, where what comes of one of which nothing is known begins so
  begins-on : (P : List Tuple → Type 0) (k : ℕ) → P [] → ((y : Tuple) (ys zs : List Tuple) → P (y ∷ ys) → P (y ∷ zs)) → (k < length sources → tuples_to_come (slice_get sources k) ≡ [] → P (tails k))
      → P (tuples_to_come (slice_get sources k)) → P (tuples_to_come (slice_get (sources_with tails sources) k))
  begins-on P k none longer bare known_so = at (tuples_to_come (slice_get sources k)) refl (ltb k (length sources)) refl
    where
      at : (ys : List Tuple) → tuples_to_come (slice_get sources k) ≡ ys → (b : Bool) → ltb k (length sources) ≡ b → P (tuples_to_come (slice_get (sources_with tails sources) k))
      at (y ∷ ys) e b t = subst P (sym (joined-front tails sources k y ys e)) (longer y ys (ys ++ tails k) (subst P e known_so))
      at [] e true t = joined-bare tails sources k P e (bare (grind (arith, nat_tests, t)) e) none
      at [] e false t = subst (λ o. P (tuples_to_come o)) (sym (joined-past tails sources k (slice_get_past sources k (grind (arith, nat_tests, t))))) none

  -- the source that releases next by what is known releases next whatever comes
  pub next-whatever : (source : ℕ) → IsNextSource sources source → IsNextSource (sources_with tails sources) source
  next-whatever source next = by (tuples_to_come (slice_get sources source)) refl next.least
    where
      by : (xs : List Tuple) → tuples_to_come (slice_get sources source) ≡ xs → BeginsLeast sources source xs → IsNextSource (sources_with tails sources) source
      by [] is none = absurd none
      by (x ∷ xs) is h =
          record {
            there = (let there = next.there in let same = joined-length tails sources in omega (arith, there, same));
            least =
                subst (BeginsLeast (sources_with tails sources) source) (sym (joined-front tails sources source x xs is))
                (λ other. begins-on (BeginsNotBefore x.time) other tt (λ y ys zs k. k) (not-before other) (h.0 other), λ other lower. begins-on (BeginsAfter x.time) other tt (λ y ys zs k. k) (after other lower) (h.1 other lower));
          }
        where
          not-before : (other : ℕ) → other < length sources → tuples_to_come (slice_get sources other) ≡ [] → BeginsNotBefore x.time (tails other)
          not-before other low none =
              bare-clear sources ahead other (λ o. IsSourceTail o (tails other) → BeginsNotBefore x.time (tails other)) clear low none (λ nothing. rw nothing tt)
              (λ from time k begins before rises.
              rises-from from x.time (tails other) rises (upto time from k before (first-not-before x.time time (tuples_to_come (slice_get sources k)) begins (h.0 k)))) (may other)
            where
              upto : (time from k : ℕ) → Precedes time k from other → x.time ≤ time → x.time ≤ from
              upto time from k (inl less) le = omega (arith, less, le)
              upto time from k (inr same) le = let e = same.0 in omega (arith, e, le)

          after : (other : ℕ) → other < source → other < length sources → tuples_to_come (slice_get sources other) ≡ [] → BeginsAfter x.time (tails other)
          after other lower low none =
              bare-clear sources ahead other (λ o. IsSourceTail o (tails other) → BeginsAfter x.time (tails other)) clear low none (λ nothing. rw nothing tt)
              (λ from time k begins before rises.
              rises-after from x.time (tails other) rises
              (upto time from k before (first-not-before x.time time (tuples_to_come (slice_get sources k)) begins (h.0 k)) (λ under. first-after x.time time (tuples_to_come (slice_get sources k)) begins (h.1 k under)))) (may other)
            where
              upto : (time from k : ℕ) → Precedes time k from other → x.time ≤ time → (k < source → x.time < time) → x.time < from
              upto time from k (inl less) le sooner = omega (arith, less, le)
              upto time from k (inr same) le sooner = let e = same.0 in let under = same.1 in let lt = sooner (omega (arith, under, lower)) in omega (arith, e, lt)

-- where nothing is known and the replay may go on no more comes of any source
pub all-closed : (sources : List Recorded) (ahead : List (Option ℕ)) → is_clear sources ahead ≡ true → length ahead ≡ length sources → ((source : ℕ) → tuples_to_come (slice_get sources source) ≡ [])
    → (k : ℕ) → more_from (slice_get ahead k) ≡ None
all-closed sources ahead clear told none k = at (ltb k (length sources)) refl
  where
    at : (b : Bool) → ltb k (length sources) ≡ b → more_from (slice_get ahead k) ≡ None
    at true t = bare-clear sources ahead k (λ o. o ≡ None) clear (grind (arith, nat_tests, t)) (none k) refl (λ from time source begins before. cc (sym (ap first_recorded (none source)) ∙ begins))
    at false t = ap more_from (slice_get_past ahead k (let past : length sources ≤ k = grind (arith, nat_tests, t) in omega (arith, past, told)))

-- what is to be released where no more comes
pub closed-whatever : (tails : Tails) (sources : List Recorded) (ahead : List (Option ℕ)) → AreTails ahead tails → ((source : ℕ) → more_from (slice_get ahead source) ≡ None)
    → ((source : ℕ) → tuples_to_come (slice_get sources source) ≡ []) → (source : ℕ) → tuples_to_come (slice_get (sources_with tails sources) source) ≡ []
closed-whatever tails sources ahead may closed_all none source =
    joined-bare tails sources source (λ xs. xs ≡ []) (none source) (subst (λ o. IsSourceTail o (tails source)) (closed_all source) (may source)) refl

pub none-more : (ahead : List (Option ℕ)) (source : ℕ) → more_from (slice_get (closed ahead) source) ≡ None
none-more [] source = refl
none-more (from ∷ ahead) zero = refl
none-more (from ∷ ahead) (suc source) = none-more ahead source
