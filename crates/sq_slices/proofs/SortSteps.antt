-- A BSort that leaves out no tuple, over a slice: a tuple comes at its time or later, and at most the delay later.
use Rattle.std.proofs.Common.{◌≡◌, ℕ, ◌+◌, ◌≤◌, leb, ltb, Bool, true, false, cond, ◌&&◌, List, [], ◌∷◌, length, Option, Some, None, refl, ap, sym, ◌∙◌, subst, arith}
use Rattle.std.proofs.lemmas.Bool.Decides.{nat_tests}
use Rattle.std.specs.List.{AllByRecursion, cons_option}
use Rattle.std.specs.Option.{IfSome}
use Rattle.sq_value.specs.declared.Tuple.{Tuple}
use Rattle.sq_value.specs.Values.{field}
use Rattle.sq_words.specs.Lists.{sort_by}
use Rattle.sq_road.proofs.Parts.{filter_sort}
use Rattle.sq_lists.specs.Sorting.{time_in, at_time, retimed, bsort_list_of}
use Rattle.sq_lists.proofs.SorterFacts.{timed-is}
use Rattle.sq_model.specs.Unions.{tuple_sooner}
use Rattle.sq_model.proofs.UnionLemmas.{sooner_orders}
use Rattle.sq_shard.proofs.Sorted.{all-sorted}
use Rattle.sq_slices.specs.Slices.{in_slice, slice, AgreeIn, CameWithin}

module _ (by delay a b hi : ℕ) (late : b + delay ≤ hi) where
  -- the time that a tuple stands for
  abbrev told : Tuple → Option ℕ
  told x = time_in x.time (field x.fields by)

  pub not-after : (x : Tuple) (t : ℕ) → told x ≡ Some t → t ≤ x.time
  not-after x t e =
      let h : (λ (o : Option ℕ). IfSome (at_time x o) (λ y. (y.time ≤ x.time) × (y.fields ≡ x.fields))) (Some t) = subst (λ (o : Option ℕ). IfSome (at_time x o) (λ y. (y.time ≤ x.time) × (y.fields ≡ x.fields))) e (timed-is by x) in
      h.0

  came : (x : Tuple) (t : ℕ) → told x ≡ Some t → CameWithin delay by x → x.time ≤ t + delay
  came x t e h = subst (λ (o : Option ℕ). IfSome o (λ t. x.time ≤ t + delay)) e h

  inside : (t u : ℕ) → t ≤ u → u ≤ t + delay → (leb a t && ltb t b) ≡ true → (leb a u && ltb u hi) ≡ true
  inside t u low high h = lem delay late low high h
    where
      lem : (d : ℕ) → b + d ≤ hi → t ≤ u → u ≤ t + d → (leb a t && ltb t b) ≡ true → (leb a u && ltb u hi) ≡ true
      lem d late low high h = grind (arith, nat_tests)

  -- a tuple of a time in the slice came in the wider one
  retimed-sliced : (xs : List Tuple) → AllByRecursion (CameWithin delay by) xs → slice a b (retimed by xs) ≡ slice a b (retimed by (slice a hi xs))
  retimed-sliced [] all = refl
  retimed-sliced (x ∷ xs) all = both (told x) (in_slice a hi x) refl refl (retimed-sliced xs all.1)
    where
      both : (o : Option ℕ) (c : Bool) → told x ≡ o → in_slice a hi x ≡ c → slice a b (retimed by xs) ≡ slice a b (retimed by (slice a hi xs))
          → slice a b (cons_option (at_time x o) (retimed by xs)) ≡ slice a b (retimed by (cond c (x ∷ slice a hi xs) (slice a hi xs)))
      both None true e f more = more ∙ sym (ap (λ o. slice a b (cons_option (at_time x o) (retimed by (slice a hi xs)))) e)
      both None false e f more = more
      both (Some t) true e f more =
          let y : Tuple = record x { time = t } in
          ap (λ l. cond (in_slice a b y) (y ∷ l) l) more ∙ sym (ap (λ o. slice a b (cons_option (at_time x o) (retimed by (slice a hi xs)))) e)
      both (Some t) false e f more = gone (leb a t && ltb t b) refl
        where
          y : Tuple
          y = record x { time = t }

          gone : (d : Bool) → (leb a t && ltb t b) ≡ d → cond d (y ∷ slice a b (retimed by xs)) (slice a b (retimed by xs)) ≡ slice a b (retimed by (slice a hi xs))
          gone true h = let no : true ≡ false = sym (inside t x.time (not-after x t e) (came x t e all.0) h) ∙ f in absurd (cc no)
          gone false h = more

  pub bsort-agrees : (slack : ℕ) (xs ys : List Tuple) → length (bsort_list_of by slack xs) ≡ length xs → length (bsort_list_of by slack ys) ≡ length ys
      → AllByRecursion (CameWithin delay by) xs → AllByRecursion (CameWithin delay by) ys → AgreeIn a hi xs ys → AgreeIn a b (bsort_list_of by slack xs) (bsort_list_of by slack ys)
  bsort-agrees slack xs ys whole part cx cy e = sorted xs whole cx ∙ ap (λ zs. sort_by tuple_sooner (slice a b (retimed by zs))) e ∙ sym (sorted ys part cy)
    where
      sorted : (xs : List Tuple) → length (bsort_list_of by slack xs) ≡ length xs → AllByRecursion (CameWithin delay by) xs
          → slice a b (bsort_list_of by slack xs) ≡ sort_by tuple_sooner (slice a b (retimed by (slice a hi xs)))
      sorted xs all cx =
          ap (slice a b) (all-sorted by slack xs all)
          ∙ filter_sort tuple_sooner sooner_orders (in_slice a b) (retimed by xs)
          ∙ ap (sort_by tuple_sooner) (retimed-sliced xs cx)
