-- A BSort of a whole stream leaves out no tuple where it leaves out none in slices that overlap by the delay.
use Rattle.std.proofs.Common.{◌≡◌, ℕ, suc, ◌+◌, ◌-◌, ◌<◌, ◌≤◌, ◌^◌, leb, ltb, Bool, true, false, cond, ◌&&◌, List, [], ◌∷◌, length, Option, Some, None, refl, ap, sym, ◌∙◌, subst, arith}
use Rattle.std.proofs.lemmas.Bool.Decides.{nat_tests}
use Rattle.std.specs.List.{AllByRecursion, filter, cons_option}
use Rattle.std.specs.Option.{IfSome}
use Rattle.sq_value.specs.declared.Tuple.{Tuple}
use Rattle.sq_value.specs.Values.{field}
use Rattle.sq_words.proofs.Alls.{all_weaker, all_filter}
use Rattle.sq_lists.specs.Sorting.{time_in, at_time, retimed, bsort_list_of}
use Rattle.sq_lists.specs.WindowParts.{TimesNotFalling}
use Rattle.sq_lists.proofs.LateLemmas.{retimed_few}
use Rattle.sq_slices.specs.Slices.{in_slice, slice, AgreeIn, CameWithin}
use Rattle.sq_slices.proofs.OvertakenLemmas.{overtaken, Fits, fits-of-all, all-of-fits}
use Rattle.sq_slices.proofs.SortSteps.{not-after}

-- the time that a tuple stands for
abbrev told : ℕ → Tuple → Option ℕ
told by x = time_in x.time (field x.fields by)

-- ---- filters

filter-under-all : {X : Type 0} (p q : X → Bool) (xs : List X) → AllByRecursion (λ x. q x ≡ true → p x ≡ true) xs → filter q (filter p xs) ≡ filter q xs
filter-under-all p q [] h = refl
filter-under-all {X} p q (x ∷ xs) h = by (filter-under-all p q xs h.1) (p x) (q x) refl refl
  where
    by : filter q (filter p xs) ≡ filter q xs → (a b : Bool) → p x ≡ a → q x ≡ b → filter q (cond a (x ∷ filter p xs) (filter p xs)) ≡ cond b (x ∷ filter q xs) (filter q xs)
    by more true b pa qb = ap (λ c. cond c (x ∷ filter q (filter p xs)) (filter q (filter p xs))) qb ∙ ap (λ zs. cond b (x ∷ zs) zs) more
    by more false false pa qb = more
    by more false true pa qb = let yes = h.0 qb in let no : true ≡ false = sym yes ∙ pa in absurd (cc no)

count-filter : {X : Type 0} (p q : X → Bool) (xs : List X) → length (filter q (filter p xs)) ≤ length (filter q xs)
count-filter p q [] = omega arith
count-filter {X} p q (x ∷ xs) = by (p x) (q x) refl (count-filter p q xs)
  where
    by : (a b : Bool) → q x ≡ b → length (filter q (filter p xs)) ≤ length (filter q xs) → length (filter q (cond a (x ∷ filter p xs) (filter p xs))) ≤ length (cond b (x ∷ filter q xs) (filter q xs))
    by true true e more = rw e (omega (arith, more))
    by true false e more = rw e more
    by false true e more = omega (arith, more)
    by false false e more = more

module _ (by delay : ℕ) where
  abbrev time_or : Option ℕ → ℕ
  time_or None = 0
  time_or (Some t) = t

  -- the time in its field
  abbrev told_time : Tuple → ℕ
  told_time x = time_or (told by x)

  -- a tuple that stands for a time, and came within the delay
  abbrev Prompt : Tuple → Type 0
  Prompt x = (t : ℕ) × (told by x ≡ Some t) × (x.time ≤ t + delay)

  -- as `Fits`, by the times in the fields
  abbrev behind : ℕ → List Tuple → ℕ
  behind t ys = length (filter (λ y. ltb t (told_time y)) ys)

  abbrev FitsTold : ℕ → List Tuple → List Tuple → Type 0
  FitsTold slack before [] = Unit {0}
  FitsTold slack before (x ∷ xs) = (behind (told_time x) before ≤ slack) × FitsTold slack (x ∷ before) xs

  retimed-told : (x : Tuple) (xs : List Tuple) (t : ℕ) → told by x ≡ Some t → retimed by (x ∷ xs) ≡ (record x { time = t }) ∷ retimed by xs
  retimed-told x xs t e = ap (λ o. cons_option (at_time x o) (retimed by xs)) e

  count-told : (xs : List Tuple) → AllByRecursion Prompt xs → length (retimed by xs) ≡ length xs
  count-told [] all = refl
  count-told (x ∷ xs) all = ap (λ (l : List Tuple). length l) (retimed-told x xs (all.0).0 (all.0).1) ∙ ap suc (count-told xs all.1)

  all-told : (xs : List Tuple) → length (retimed by xs) ≡ length xs → AllByRecursion (CameWithin delay by) xs → AllByRecursion Prompt xs
  all-told [] count came = tt
  all-told (x ∷ xs) count came = of (told by x) refl (all-told xs)
    where
      of : (o : Option ℕ) → told by x ≡ o → (length (retimed by xs) ≡ length xs → AllByRecursion (CameWithin delay by) xs → AllByRecursion Prompt xs) → AllByRecursion Prompt (x ∷ xs)
      of None e more =
          let few = retimed_few by xs in
          let here : length (retimed by xs) ≡ suc (length xs) = sym (ap (λ o. length (cons_option (at_time x o) (retimed by xs))) e) ∙ count in
          absurd (omega (arith, few, here))
      of (Some t) e more =
          let here : suc (length (retimed by xs)) ≡ suc (length xs) = sym (ap (λ o. length (cons_option (at_time x o) (retimed by xs))) e) ∙ count in
          ((t, e, subst (λ (o : Option ℕ). IfSome o (λ t. x.time ≤ t + delay)) e came.0), more (omega (arith, here)) came.1)

  came-of : (xs : List Tuple) → AllByRecursion Prompt xs → AllByRecursion (CameWithin delay by) xs
  came-of xs all = all_weaker Prompt (CameWithin delay by) (λ x p. subst (λ (o : Option ℕ). IfSome o (λ t. x.time ≤ t + delay)) (sym p.1) p.2) xs all

  over-told : (t : ℕ) (ys : List Tuple) → AllByRecursion Prompt ys → overtaken t (retimed by ys) ≡ behind t ys
  over-told t [] all = refl
  over-told t (y ∷ ys) all =
      ap (overtaken t) (retimed-told y ys (all.0).0 (all.0).1)
      ∙ one (ltb t (all.0).0) (over-told t ys all.1)
      ∙ sym (ap (λ o. length (cond (ltb t (time_or o)) (y ∷ filter (λ y. ltb t (told_time y)) ys) (filter (λ y. ltb t (told_time y)) ys))) (all.0).1)
    where
      z : Tuple
      z = record y { time = (all.0).0 }

      one : (c : Bool) → overtaken t (retimed by ys) ≡ behind t ys
          → length (cond c (z ∷ filter (λ y. ltb t y.time) (retimed by ys)) (filter (λ y. ltb t y.time) (retimed by ys))) ≡ length (cond c (y ∷ filter (λ y. ltb t (told_time y)) ys) (filter (λ y. ltb t (told_time y)) ys))
      one true more = ap suc more
      one false more = more

  to-told : (slack : ℕ) (xs before : List Tuple) → AllByRecursion Prompt xs → AllByRecursion Prompt before → Fits slack (retimed by before) (retimed by xs) → FitsTold slack before xs
  to-told slack [] before all past h = tt
  to-told slack (x ∷ xs) before all past h =
      let t = (all.0).0 in
      let e = (all.0).1 in
      let k : Fits slack (retimed by before) ((record x { time = t }) ∷ retimed by xs) = subst (Fits slack (retimed by before)) (retimed-told x xs t e) h in
      let same = over-told t before past in
      let here : behind t before ≤ slack = (let some = k.0 in omega (arith, some, same)) in (
        subst (λ o. behind (time_or o) before ≤ slack) (sym e) here,
        to-told slack xs (x ∷ before) all.1 (all.0, past) (subst (λ l. Fits slack l (retimed by xs)) (sym (retimed-told x before t e)) k.1),
      )

  from-told : (slack : ℕ) (xs before : List Tuple) → AllByRecursion Prompt xs → AllByRecursion Prompt before → FitsTold slack before xs → Fits slack (retimed by before) (retimed by xs)
  from-told slack [] before all past h = tt
  from-told slack (x ∷ xs) before all past h =
      let t = (all.0).0 in
      let e = (all.0).1 in
      let same = over-told t before past in
      let some : behind t before ≤ slack = subst (λ o. behind (time_or o) before ≤ slack) e h.0 in
      let here : overtaken t (retimed by before) ≤ slack = omega (arith, some, same) in
      subst (Fits slack (retimed by before)) (sym (retimed-told x xs t e))
      (here, subst (λ l. Fits slack l (retimed by xs)) (retimed-told x before t e) (from-told slack xs (x ∷ before) all.1 (all.0, past) h.1))

  -- what is left of what fits, fits
  fits-filter : (slack : ℕ) (p : Tuple → Bool) (xs before : List Tuple) → FitsTold slack before xs → FitsTold slack (filter p before) (filter p xs)
  fits-filter slack p [] before h = tt
  fits-filter slack p (x ∷ xs) before h = one (p x) refl (fits-filter slack p xs (x ∷ before) h.1)
    where
      one : (b : Bool) → p x ≡ b → FitsTold slack (filter p (x ∷ before)) (filter p xs) → FitsTold slack (filter p before) (cond b (x ∷ filter p xs) (filter p xs))
      one true e more =
          let few = count-filter p (λ y. ltb (told_time x) (told_time y)) before in
          let most = h.0 in
          (omega (arith, few, most), subst (λ b. FitsTold slack (cond b (x ∷ filter p before) (filter p before)) (filter p xs)) e more)
      one false e more = subst (λ b. FitsTold slack (cond b (x ∷ filter p before) (filter p before)) (filter p xs)) e more

  -- ---- zones that cover all ticks

  module _ (Zone : ℕ → ℕ → Type 0) (covers : (t : ℕ) → t < 2 ^ 40 → (a : ℕ) × (b : ℕ) × Zone a b × (a ≤ t) × (t < b)) where
    abbrev part : ℕ → ℕ → List Tuple → List Tuple
    part a b xs = slice (a - delay) b xs

    inside : (a b t : ℕ) → a ≤ t → t < b → (leb (a - delay) t && ltb t b) ≡ true
    inside a b t low high = lem (a - delay) b t (omega (arith, low)) high
      where
        lem : (c b t : ℕ) → c ≤ t → t < b → (leb c t && ltb t b) ≡ true
        lem c b t low high = grind (arith, nat_tests)

    all-zones : (P : Tuple → Type 0) (xs : List Tuple) → AllByRecursion (λ x. x.time < 2 ^ 40) xs → ((a b : ℕ) → Zone a b → AllByRecursion P (part a b xs)) → AllByRecursion P xs
    all-zones P [] ticks h = tt
    all-zones P (x ∷ xs) ticks h =
        let z = covers x.time ticks.0 in
        let here = subst (λ c. AllByRecursion P (cond c (x ∷ part z.0 z.1 xs) (part z.0 z.1 xs))) (inside z.0 z.1 x.time z.3 z.4) (h z.0 z.1 z.2) in
        (here.0, all-zones P xs ticks.1 (λ a b zone. rest (in_slice (a - delay) b x) (part a b xs) (h a b zone)))
      where
        rest : (c : Bool) (zs : List Tuple) → AllByRecursion P (cond c (x ∷ zs) zs) → AllByRecursion P zs
        rest true zs all = all.1
        rest false zs all = all

    fits-zones : (slack : ℕ) (xs before : List Tuple) (latest : ℕ) → AllByRecursion (λ y. y.time ≤ latest) before → TimesNotFalling latest xs
        → AllByRecursion Prompt before → AllByRecursion Prompt xs → AllByRecursion (λ x. x.time < 2 ^ 40) xs
        → ((a b : ℕ) → Zone a b → FitsTold slack (part a b before) (part a b xs)) → FitsTold slack before xs
    fits-zones slack [] before latest early up past all ticks h = tt
    fits-zones slack (x ∷ xs) before latest early up past all ticks h =
        let z = covers x.time ticks.0 in
        let a = z.0 in
        let b = z.1 in
        let here = subst (λ c. FitsTold slack (part a b before) (cond c (x ∷ part a b xs) (part a b xs))) (inside a b x.time z.3 z.4) (h a b z.2) in
        let some = here.0 in
        let same = ap (λ (l : List Tuple). length l) (filter-under-all (in_slice (a - delay) b) (λ y. ltb (told_time x) (told_time y)) before (near a b z.3 z.4 before early past)) in (
          omega (arith, some, same),
          fits-zones slack xs (x ∷ before) x.time (omega arith, all_weaker (λ (y : Tuple). y.time ≤ latest) (λ (y : Tuple). y.time ≤ x.time) (λ y le. (let low = up.0 in omega (arith, le, low))) before early)
              up.1 (all.0, past) all.1 ticks.1 (λ a b zone. rest a b (in_slice (a - delay) b x) refl (h a b zone)),
        )
      where
        rest : (a b : ℕ) (c : Bool) → in_slice (a - delay) b x ≡ c → FitsTold slack (part a b before) (cond (in_slice (a - delay) b x) (x ∷ part a b xs) (part a b xs))
            → FitsTold slack (cond (in_slice (a - delay) b x) (x ∷ part a b before) (part a b before)) (part a b xs)
        rest a b true e k = subst (λ c. FitsTold slack (cond c (x ∷ part a b before) (part a b before)) (part a b xs)) (sym e) (subst (λ c. FitsTold slack (part a b before) (cond c (x ∷ part a b xs) (part a b xs))) e k).1
        rest a b false e k = subst (λ c. FitsTold slack (cond c (x ∷ part a b before) (part a b before)) (part a b xs)) (sym e) (subst (λ c. FitsTold slack (part a b before) (cond c (x ∷ part a b xs) (part a b xs))) e k)

        -- one that came before and has a later time came within the delay
        close : (a b : ℕ) → a ≤ x.time → x.time < b → (y : Tuple) → y.time ≤ latest → Prompt y → ltb (told_time x) (told_time y) ≡ true → (leb (a - delay) y.time && ltb y.time b) ≡ true
        close a b low high y le p more =
            let t = (all.0).0 in
            let u = p.0 in
            let less : ltb t u ≡ true = sym (ap (λ o. ltb (time_or o) (told_time y)) (all.0).1 ∙ ap (λ o. ltb t (time_or o)) p.1) ∙ more in
            let came = (all.0).2 in
            let after = not-after by delay 0 0 delay (omega arith) y u p.1 in
            let rise = up.0 in
            let above = is-less t u less in
            lem (a - delay) b y.time (omega (arith, low, came, above, after)) (omega (arith, le, rise, high))
          where
            is-less : (t u : ℕ) → ltb t u ≡ true → t < u
            is-less t u h = grind (arith, nat_tests)

            lem : (c b t : ℕ) → c ≤ t → t < b → (leb c t && ltb t b) ≡ true
            lem c b t low high = grind (arith, nat_tests)

        near : (a b : ℕ) → a ≤ x.time → x.time < b → (ys : List Tuple) → AllByRecursion (λ y. y.time ≤ latest) ys → AllByRecursion Prompt ys
            → AllByRecursion (λ y. ltb (told_time x) (told_time y) ≡ true → in_slice (a - delay) b y ≡ true) ys
        near a b low high [] early past = tt
        near a b low high (y ∷ ys) early past = (close a b low high y early.0 past.0, near a b low high ys early.1 past.1)

    -- what a BSort is fed in zones, and that it is in time there
    abbrev InZones : ℕ → List Tuple → Type 0
    InZones slack xs = (a b : ℕ) → Zone a b → (ys : List Tuple) × AgreeIn (a - delay) b xs ys × (length (bsort_list_of by slack ys) ≡ length ys) × AllByRecursion (CameWithin delay by) ys

    pub in-time : (slack : ℕ) (xs : List Tuple) → TimesNotFalling 0 xs → AllByRecursion (λ x. x.time < 2 ^ 40) xs → InZones slack xs
        → (length (bsort_list_of by slack xs) ≡ length xs) × AllByRecursion (CameWithin delay by) xs
    in-time slack xs up ticks zones =
        let prompt = all-zones Prompt xs ticks (λ a b zone. (let z = zones a b zone in subst (AllByRecursion Prompt) (sym z.1) (all_filter Prompt (in_slice (a - delay) b) z.0 (promptly a b zone)))) in
        let told = fits-zones slack xs [] 0 tt up tt prompt ticks (λ a b zone. (let z = zones a b zone in subst (FitsTold slack []) (sym z.1) (fits-filter slack (in_slice (a - delay) b) z.0 [] (fitly a b zone)))) in
        (all-of-fits by slack xs (count-told xs prompt) (from-told slack xs [] prompt tt told), came-of xs prompt)
      where
        promptly : (a b : ℕ) (zone : Zone a b) → AllByRecursion Prompt (zones a b zone).0
        promptly a b zone = let z = zones a b zone in all-told z.0 (fits-of-all by slack z.0 z.2).0 z.3

        fitly : (a b : ℕ) (zone : Zone a b) → FitsTold slack [] (zones a b zone).0
        fitly a b zone = let z = zones a b zone in to-told slack z.0 [] (promptly a b zone) tt (fits-of-all by slack z.0 z.2).1
