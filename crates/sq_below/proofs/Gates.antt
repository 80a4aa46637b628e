-- What a gate with a length shows.
use Rattle.std.proofs.Common.{◌≡◌, ℕ, ◌+◌, ◌*◌, ◌/◌, ◌≤◌, ◌<◌, eqb, ltb, Bool, true, false, cond, not, ◌&&◌, ◌||◌, List, [], ◌∷◌, refl, ap, sym, ◌∙◌, arith}
use Rattle.std.proofs.lemmas.Bool.Decides.{nat_tests}
use Rattle.std.proofs.Math.Nat.{div-mul-le_self}
use Rattle.std.specs.List.{filter, list_any}
use Rattle.sq_value.specs.declared.Tuple.{Tuple}
use Rattle.sq_item.specs.declared.Mark.TheVariants as mark
use Rattle.sq_tagged.specs.TaggedStreams.{bound_at, lessened, lessened_by}
use Rattle.sq_tagged.specs.Boxes.{is_open, opens, gate_of}
use Rattle.sq_place.specs.Ranks.{Somewhere}
use Rattle.sq_below.proofs.Lists.{All-both}
use Rattle.sq_below.proofs.Bounds.{bound-less}
use Rattle.sq_below.proofs.Nearness.{Somewhere-weaker}
use Rattle.sq_below.proofs.Keeping.{marks_of, bound-reaches}
use Rattle.sq_words.specs.Lists.{contains_number}
use Rattle.sq_below.proofs.ArcWords.{marked, AllTimes, IsNear}
use Rattle.sq_words.proofs.Lists.{contains_filter, filter_agree, filter_both}
use Rattle.sq_words.proofs.Alls.{all_weaker}

module _ (dropped : ℕ → Bool) (until : ℕ → ℕ) (len : ℕ) (one : 1 ≤ len) where
  -- at the start of a batch stands an open mark exactly where it is touched and permitted
  opened : (d : ℕ) (touched : List ℕ) (b : ℕ) → list_any (opens (b * len)) (lessened_by d (marks_of dropped until len one touched)) ≡ (contains_number touched b && not (dropped b))
  opened d [] b = refl
  opened d (x ∷ xs) b = by (opened d xs b) (eqb x b) (dropped x) refl refl
    where
      eq : (a k : ℕ) → eqb a k ≡ true → a ≡ k
      eq a k h = grind (arith, nat_tests)

      same : (a k : ℕ) → a ≡ k → eqb a k ≡ true
      same a k h = grind (arith, nat_tests)

      ne : (a k : ℕ) → (a ≡ k → eqb x b ≡ true) → eqb x b ≡ false → eqb a k ≡ false
      ne a k f e = two (eqb a k) refl
        where
          two : (c : Bool) → eqb a k ≡ c → c ≡ false
          two true h = sym (f (eq a k h)) ∙ e
          two false h = refl

      cancel : x * len ≡ b * len → eqb x b ≡ true
      cancel h = three (ltb x b) (ltb b x) refl refl
        where
          less : (a c : ℕ) → ltb a c ≡ true → a * len < c * len
          less a c h = more-than a c (lt a c h)
            where
              lt : (a c : ℕ) → ltb a c ≡ true → a < c
              lt a c h = grind (arith, nat_tests)

              more-than : (a c : ℕ) → a < c → a * len < c * len
              more-than a c h = let s : (a + 1) * len ≤ c * len = wide (a + 1) c (omega (arith, h)) in omega (arith, s, next a)
                where
                  wide : (a c : ℕ) → a ≤ c → a * len ≤ c * len
                  wide a c le = grind arith

                  next : (a : ℕ) → (a + 1) * len ≡ a * len + len
                  next a = grind arith

          neither : (a c : ℕ) → ltb a c ≡ false → ltb c a ≡ false → eqb a c ≡ true
          neither a c h k = grind (arith, nat_tests)

          three : (p q : Bool) → ltb x b ≡ p → ltb b x ≡ q → eqb x b ≡ true
          three true q hp hq = let l = less x b hp in absurd (omega (arith, l, h))
          three false true hp hq = let l = less b x hq in absurd (omega (arith, l, h))
          three false false hp hq = neither x b hp hq

      by : list_any (opens (b * len)) (lessened_by d (marks_of dropped until len one xs)) ≡ (contains_number xs b && not (dropped b)) → (e c : Bool) → eqb x b ≡ e → dropped x ≡ c
          → ((eqb (x * len) (b * len) && is_open (lessened d (cond c mark.Closed (mark.Open (until x))))) || list_any (opens (b * len)) (lessened_by d (marks_of dropped until len one xs)))
          ≡ ((e || contains_number xs b) && not (dropped b))
      by more true true pe pc =
          let is : x ≡ b = eq x b pe in
          let no : dropped b ≡ true = ap dropped (sym is) ∙ pc in
          ap (λ z. (z && false) || list_any (opens (b * len)) (lessened_by d (marks_of dropped until len one xs))) (same (x * len) (b * len) (ap (λ z. z * len) is))
          ∙ more ∙ ap (λ z. contains_number xs b && not z) no ∙ last (contains_number xs b) ∙ ap not (sym no)
        where
          last : (c : Bool) → (c && false) ≡ false
          last true = refl
          last false = refl
      by more true false pe pc =
          let is : x ≡ b = eq x b pe in
          let no : dropped b ≡ false = ap dropped (sym is) ∙ pc in
          ap (λ z. (z && true) || list_any (opens (b * len)) (lessened_by d (marks_of dropped until len one xs))) (same (x * len) (b * len) (ap (λ z. z * len) is))
          ∙ ap not (sym no)
      by more false c pe pc =
          ap (λ z. (z && is_open (lessened d (cond c mark.Closed (mark.Open (until x))))) || list_any (opens (b * len)) (lessened_by d (marks_of dropped until len one xs)))
          (ne (x * len) (b * len) cancel pe)
          ∙ more

  module _ (keep : ℕ) (lasts : (b : ℕ) → until b ≡ (b + 1) * len + keep) (touched : List ℕ) (above : List Tuple)
      (complete : (b : ℕ) → Somewhere (λ y. (b * len ≤ y.time) × (y.time < until b)) above → contains_number touched b ≡ true)
      (d least : ℕ) (enough : d + 1 ≤ keep + least) where
    -- a result of a batch: it is near, and begins by the last start of its batch
    abbrev pub IsResult : ℕ → Type 0
    IsResult t = IsNear above d t × (t + least ≤ (t / len + 1) * len)

    starts : (t : ℕ) → t / len * len ≤ t
    starts t = div-mul-le_self t len

    -- its batch is touched
    is-touched : (t : ℕ) → IsResult t → contains_number touched (t / len) ≡ true
    is-touched t r =
        complete (t / len) (Somewhere-weaker (λ y. (t ≤ y.time) × (y.time ≤ t + d)) (λ y. (t / len * len ≤ y.time) × (y.time < until (t / len)))
        (λ y p. (let s = starts t in let l = p.0 in omega (arith, s, l), let e = lasts (t / len) in let u = p.1 in let v = r.1 in let w = enough in omega (arith, e, u, v, w))) above r.0)

    -- where it is permitted, the result is below the bounds
    is-kept : (t : ℕ) → IsResult t → dropped (t / len) ≡ false → t < bound_at (lessened_by d (marks_of dropped until len one touched)) t
    is-kept t r p =
        let reach = bound-reaches dropped until len one touched (t / len) t (is-touched t r) p (starts t) in
        let e = lasts (t / len) in let v = r.1 in let w = enough in let less = bound-less d (marks_of dropped until len one touched) t in
        omega (arith, reach, e, v, w, less)

    test-same : (t : ℕ) → IsResult t
        → (ltb t (bound_at (lessened_by d (marks_of dropped until len one touched)) t) && list_any (opens (t / len * len)) (lessened_by d (marks_of dropped until len one touched)))
        ≡ not (contains_number (filter dropped touched) (t / len))
    test-same t r = by (dropped (t / len)) refl
      where
        below : (a b : ℕ) → a < b → ltb a b ≡ true
        below a b h = grind (arith, nat_tests)

        last : (c : Bool) → (c && false) ≡ false
        last true = refl
        last false = refl

        here : contains_number touched (t / len) ≡ true
        here = is-touched t r

        shut : list_any (opens (t / len * len)) (lessened_by d (marks_of dropped until len one touched)) ≡ not (dropped (t / len))
        shut = opened d touched (t / len) ∙ ap (λ z. z && not (dropped (t / len))) here

        recorded : contains_number (filter dropped touched) (t / len) ≡ dropped (t / len)
        recorded = contains_filter dropped touched (t / len) ∙ ap (λ z. z && dropped (t / len)) here

        by : (c : Bool) → dropped (t / len) ≡ c
            → (ltb t (bound_at (lessened_by d (marks_of dropped until len one touched)) t) && list_any (opens (t / len * len)) (lessened_by d (marks_of dropped until len one touched)))
            ≡ not (contains_number (filter dropped touched) (t / len))
        by true p =
            ap (λ z. ltb t (bound_at (lessened_by d (marks_of dropped until len one touched)) t) && z) (shut ∙ ap not p)
            ∙ last (ltb t (bound_at (lessened_by d (marks_of dropped until len one touched)) t)) ∙ ap not (sym (recorded ∙ p))
        by false p =
            ap (λ z. z && list_any (opens (t / len * len)) (lessened_by d (marks_of dropped until len one touched))) (below t (bound_at (lessened_by d (marks_of dropped until len one touched)) t) (is-kept t r p))
            ∙ shut ∙ ap not (p ∙ sym (recorded ∙ p))

    -- the gate shows the results whose batch isn't recorded
    pub gate-shows : (full : List Tuple) → AllTimes (IsNear above d) full → AllTimes (λ t. t + least ≤ (t / len + 1) * len) full
        → gate_of len (marked (marks_of dropped until len one touched) d full) ≡ filter (λ x. not (contains_number (filter dropped touched) (x.time / len))) full
    gate-shows full near starts =
        filter_both (λ x. ltb x.time (bound_at (lessened_by d (marks_of dropped until len one touched)) x.time)) (λ x. list_any (opens (x.time / len * len)) (lessened_by d (marks_of dropped until len one touched))) full
        ∙ filter_agree (λ x. ltb x.time (bound_at (lessened_by d (marks_of dropped until len one touched)) x.time) && list_any (opens (x.time / len * len)) (lessened_by d (marks_of dropped until len one touched)))
        (λ x. not (contains_number (filter dropped touched) (x.time / len))) full
        (all_weaker (λ x. IsNear above d x.time × (x.time + least ≤ (x.time / len + 1) * len))
        (λ x. (ltb x.time (bound_at (lessened_by d (marks_of dropped until len one touched)) x.time) && list_any (opens (x.time / len * len)) (lessened_by d (marks_of dropped until len one touched)))
        ≡ not (contains_number (filter dropped touched) (x.time / len)))
        (λ x r. test-same x.time r) full (All-both (λ x. IsNear above d x.time) (λ x. x.time + least ≤ (x.time / len + 1) * len) full near starts))
