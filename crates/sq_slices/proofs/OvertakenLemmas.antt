-- A BSort leaves out no tuple where none came behind more tuples of later times than its slack, and only there.
use Rattle.std.proofs.Common.{◌≡◌, ℕ, suc, ◌+◌, ◌<◌, ◌≤◌, max, ltb, Bool, true, false, cond, List, [], ◌∷◌, ◌++◌, length, refl, ap, sym, ◌∙◌, subst, arith, inl, inr}
use Rattle.std.proofs.lemmas.Bool.{cases_lt}
use Rattle.std.proofs.lemmas.Bool.Decides.{nat_tests}
use Rattle.std.proofs.lemmas.List.{length-map}
use Rattle.std.specs.Prelude.{if◌then◌else◌, nat_lt}
use Rattle.std.specs.List.{AllByRecursion, filter}
use Rattle.sq_value.specs.declared.Tuple.{Tuple}
use Rattle.sq_words.specs.Lists.{Rising}
use Rattle.sq_words.proofs.Alls.{all_weaker}
use Rattle.sq_words.proofs.Numbers.{ltb_not}
use Rattle.sq_lists.specs.Sorting.{Numbered, numbered_sooner, retimed, without_late, bsort_list_of}
use Rattle.sq_lists.specs.Sorters.{put_in, first_of_all, after_first, chosen_of, kept_back, new_sorter}
use Rattle.sq_lists.specs.WindowParts.{TimesNotFalling}
use Rattle.sq_lists.proofs.SorterFacts.{All-put, length-put}
use Rattle.sq_lists.proofs.SorterLemmas.{sorter-list}
use Rattle.sq_lists.proofs.WindowLemmas.{all-later}
use Rattle.sq_lists.proofs.LateLemmas.{retimed_few}
use Rattle.sq_shard.proofs.Sorted.{tuples, leaving, run-leaving, put-rising, none-late, leaving-count, chosen-and-kept}

-- how many tuples have a later time
abbrev pub overtaken : ℕ → List Tuple → ℕ
overtaken t ys = length (filter (λ y. ltb t y.time) ys)

-- none of xs comes behind more tuples of later times than the slack, where these came before
abbrev pub Fits : ℕ → List Tuple → List Tuple → Type 0
Fits slack before [] = Unit {0}
Fits slack before (x ∷ xs) = (overtaken x.time before ≤ slack) × Fits slack (x ∷ before) xs

-- ---- counting

over-few : (t : ℕ) (ys : List Tuple) → overtaken t ys ≤ length ys
over-few t [] = omega arith
over-few t (y ∷ ys) = by (ltb t y.time) (over-few t ys)
  where
    by : (c : Bool) → overtaken t ys ≤ length ys → length (cond c (y ∷ filter (λ y. ltb t y.time) ys) (filter (λ y. ltb t y.time) ys)) ≤ suc (length ys)
    by true more = omega (arith, more)
    by false more = omega (arith, more)

over-more : (t : ℕ) (x : Tuple) (ys : List Tuple) → overtaken t ys ≤ overtaken t (x ∷ ys)
over-more t x ys = by (ltb t x.time)
  where
    by : (c : Bool) → overtaken t ys ≤ length (cond c (x ∷ filter (λ y. ltb t y.time) ys) (filter (λ y. ltb t y.time) ys))
    by true = omega arith
    by false = omega arith

over-both : (t : ℕ) (x : Tuple) (ys zs : List Tuple) → overtaken t ys ≤ overtaken t zs → overtaken t (x ∷ ys) ≤ overtaken t (x ∷ zs)
over-both t x ys zs h = by (ltb t x.time)
  where
    by : (c : Bool) → length (cond c (x ∷ filter (λ y. ltb t y.time) ys) (filter (λ y. ltb t y.time) ys)) ≤ length (cond c (x ∷ filter (λ y. ltb t y.time) zs) (filter (λ y. ltb t y.time) zs))
    by true = omega (arith, h)
    by false = omega (arith, h)

over-not : (t : ℕ) (x : Tuple) (ys : List Tuple) → x.time ≤ t → overtaken t (x ∷ ys) ≡ overtaken t ys
over-not t x ys le = ap (λ c. length (cond c (x ∷ filter (λ y. ltb t y.time) ys) (filter (λ y. ltb t y.time) ys))) (no t x.time le)
  where
    no : (t u : ℕ) → u ≤ t → ltb t u ≡ false
    no t u h = grind (arith, nat_tests)

over-all : (t : ℕ) (ys : List Tuple) → AllByRecursion (λ y. t < y.time) ys → overtaken t ys ≡ length ys
over-all t [] all = refl
over-all t (y ∷ ys) all = ap (λ c. length (cond c (y ∷ filter (λ y. ltb t y.time) ys) (filter (λ y. ltb t y.time) ys))) (yes t y.time all.0) ∙ ap suc (over-all t ys all.1)
  where
    yes : (t u : ℕ) → t < u → ltb t u ≡ true
    yes t u h = grind (arith, nat_tests)

put-count : (t : ℕ) (a : Numbered) (ys : List Numbered) → overtaken t (tuples (put_in a ys)) ≡ overtaken t (a.1 ∷ tuples ys)
put-count t a [] = refl
put-count t a (y ∷ ys) = by (numbered_sooner a y) (put-count t a ys)
  where
    far : (c d : Bool) (F G : List Tuple) → length F ≡ length (cond d (a.1 ∷ G) G) → length (cond c (y.1 ∷ F) F) ≡ length (cond d (a.1 ∷ cond c (y.1 ∷ G) G) (cond c (y.1 ∷ G) G))
    far true true F G more = ap suc more
    far true false F G more = ap suc more
    far false true F G more = more
    far false false F G more = more

    by : (b : Bool) → overtaken t (tuples (put_in a ys)) ≡ overtaken t (a.1 ∷ tuples ys) → overtaken t (tuples (if b then a ∷ y ∷ ys else y ∷ put_in a ys)) ≡ overtaken t (a.1 ∷ tuples (y ∷ ys))
    by true more = refl
    by false more = far (ltb t (y.1).time) (ltb t (a.1).time) (filter (λ y. ltb t y.time) (tuples (put_in a ys))) (filter (λ y. ltb t y.time) (tuples ys)) more

-- ---- what leaves in order fits

all-split : (P : Tuple → Type 0) (xs ys : List Tuple) → AllByRecursion P (xs ++ ys) → AllByRecursion P xs × AllByRecursion P ys
all-split P [] ys h = (tt, h)
all-split P (x ∷ xs) ys h = let more = all-split P xs ys h.1 in ((h.0, more.0), more.1)

all-join : (P : Tuple → Type 0) (xs ys : List Tuple) → AllByRecursion P xs → AllByRecursion P ys → AllByRecursion P (xs ++ ys)
all-join P [] ys h k = k
all-join P (x ∷ xs) ys h k = (h.0, all-join P xs ys h.1 k)

all-of-put : (P : Tuple → Type 0) (a : Numbered) (ys : List Numbered) → AllByRecursion P (tuples (put_in a ys)) → P a.1
all-of-put P a [] h = h.0
all-of-put P a (y ∷ ys) h = by (numbered_sooner a y) h (all-of-put P a ys)
  where
    by : (b : Bool) → AllByRecursion P (tuples (if b then a ∷ y ∷ ys else y ∷ put_in a ys)) → (AllByRecursion P (tuples (put_in a ys)) → P a.1) → P a.1
    by true h more = h.0
    by false h more = more h.1

-- what is so of all that leaves is so of what is held
all-leaving : (P : Tuple → Type 0) (slack : ℕ) (xs : List Tuple) (held : List Numbered) (k : ℕ) → AllByRecursion P (leaving slack held k xs) → AllByRecursion P (tuples held)
all-leaving P slack [] held k h = h
all-leaving P slack (x ∷ xs) held k h =
    let full = put_in (k, x) held in
    let parts = all-split P (chosen_of slack full) (leaving slack (kept_back slack full) (k + 1) xs) h in
    let rest = all-leaving P slack xs (kept_back slack full) (k + 1) parts.1 in
    back held (subst (AllByRecursion P) (chosen-and-kept slack full) (all-join P (chosen_of slack full) (tuples (kept_back slack full)) parts.0 rest))
  where
    back : (ys : List Numbered) → AllByRecursion P (tuples (put_in (k, x) ys)) → AllByRecursion P (tuples ys)
    back [] h = tt
    back (y ∷ ys) h = by (numbered_sooner (k, x) y) h (back ys)
      where
        by : (b : Bool) → AllByRecursion P (tuples (if b then (k, x) ∷ y ∷ ys else y ∷ put_in (k, x) ys)) → (AllByRecursion P (tuples (put_in (k, x) ys)) → AllByRecursion P (tuples ys)) → AllByRecursion P (tuples (y ∷ ys))
        by true h more = h.1
        by false h more = (h.0, more h.1)

first-of : (P : Tuple → Type 0) (slack k : ℕ) (x : Tuple) (xs : List Tuple) (held : List Numbered) → AllByRecursion P (leaving slack held k (x ∷ xs)) → P x
first-of P slack k x xs held h =
    let full = put_in (k, x) held in
    let parts = all-split P (chosen_of slack full) (leaving slack (kept_back slack full) (k + 1) xs) h in
    let rest = all-leaving P slack xs (kept_back slack full) (k + 1) parts.1 in
    all-of-put P (k, x) held (subst (AllByRecursion P) (chosen-and-kept slack full) (all-join P (chosen_of slack full) (tuples (kept_back slack full)) parts.0 rest))

-- of later times are no fewer held than came before
abbrev Linked : ℕ → List Tuple → List Numbered → Type 0
Linked least before held = (t : ℕ) → least ≤ t → overtaken t before ≤ overtaken t (tuples held)

fits : (slack : ℕ) (xs : List Tuple) (held : List Numbered) (k least : ℕ) (before : List Tuple) → TimesNotFalling least (leaving slack held k xs) → length held ≤ slack → Linked least before held → Fits slack before xs
fits slack [] held k least before up few linked = tt
fits slack (x ∷ xs) held k least before up few linked =
    let low : least ≤ x.time = first-of (λ (y : Tuple). least ≤ y.time) slack k x xs held (all-later least (leaving slack held k (x ∷ xs)) up) in
    let some = linked x.time low in
    let most = over-few x.time (tuples held) in
    let many = length-map held (λ (a : Numbered). a.1) in
    let put = length-put (k, x) held in (
      omega (arith, some, most, many, few),
      step (nat_lt slack (length (put_in (k, x) held))) (put_in (k, x) held) refl (omega (arith, put, few))
          (λ t le. (let h = over-both t x before (tuples held) (linked t le) in let e = put-count t (k, x) held in omega (arith, h, e))) up (fits slack xs),
    )
  where
    step : (b : Bool) (fs : List Numbered) → nat_lt slack (length fs) ≡ b → length fs ≤ slack + 1 → Linked least (x ∷ before) fs
        → TimesNotFalling least ((if b then first_of_all fs else []) ++ leaving slack (if b then after_first fs else fs) (k + 1) xs)
        → ((held : List Numbered) (k least : ℕ) (before : List Tuple) → TimesNotFalling least (leaving slack held k xs) → length held ≤ slack → Linked least before held → Fits slack before xs)
        → Fits slack (x ∷ before) xs
    step true [] e few linked up more = absurd (none slack e)
      where
        none : (s : ℕ) → ltb s 0 ≡ true → ⊥
        none s h = grind (arith, nat_tests)
    step true (y ∷ fs) e few linked up more =
        more fs (k + 1) (y.1).time (x ∷ before) up.1 (omega (arith, few))
        (λ t le. (let h = linked t (let low = up.0 in omega (arith, le, low)) in let same = over-not t y.1 (tuples fs) le in omega (arith, h, same)))
    step false fs e few linked up more = more fs (k + 1) least (x ∷ before) up (let le = ltb_not slack (length fs) e in omega (arith, le)) linked

-- ---- what fits leaves in order

fits-all : (slack : ℕ) (xs before : List Tuple) → Fits slack before xs → AllByRecursion (λ z. overtaken z.time before ≤ slack) xs
fits-all slack [] before h = tt
fits-all slack (x ∷ xs) before h =
    (h.0, all_weaker (λ (z : Tuple). overtaken z.time (x ∷ before) ≤ slack) (λ (z : Tuple). overtaken z.time before ≤ slack) (λ z k. (let more = over-more z.time x before in omega (arith, more, k))) xs (fits-all slack xs (x ∷ before) h.1))

held-rises : (least : ℕ) (ys : List Numbered) → Rising numbered_sooner ys → AllByRecursion (λ y. least ≤ (y.1).time) ys → TimesNotFalling least (tuples ys)
held-rises least [] up all = tt
held-rises least (y ∷ ys) up all =
    (all.0, held-rises (y.1).time ys up.1 (all_weaker (λ (z : Numbered). numbered_sooner z y ≡ false) (λ (z : Numbered). (y.1).time ≤ (z.1).time) (λ z h. ltb_not (z.1).time (y.1).time h) ys up.0))

all-times : (P : ℕ → Type 0) (ys : List Numbered) → AllByRecursion (λ y. P (y.1).time) ys → AllByRecursion (λ y. P y.time) (tuples ys)
all-times P [] all = tt
all-times P (y ∷ ys) all = (all.0, all-times P ys all.1)

rises : (slack : ℕ) (xs : List Tuple) (held : List Numbered) (k least : ℕ) (before : List Tuple)
    → Rising numbered_sooner held → AllByRecursion (λ y. least ≤ (y.1).time) held → AllByRecursion (λ x. least ≤ x.time) xs → length held ≤ slack
    → ((t : ℕ) → overtaken t (tuples held) ≤ overtaken t before) → Fits slack before xs → TimesNotFalling least (leaving slack held k xs)
rises slack [] held k least before up low all few within fit = held-rises least held up low
rises slack (x ∷ xs) held k least before up low all few within fit =
    let put = length-put (k, x) held in
    step (nat_lt slack (length (put_in (k, x) held))) (put_in (k, x) held) refl (put-rising (k, x) held up) (All-put (λ y. least ≤ (y.1).time) (k, x) held all.0 low) (omega (arith, put, few))
    (λ t. (let h = over-both t x (tuples held) before (within t) in let e = put-count t (k, x) held in omega (arith, h, e))) (rises slack xs)
  where
    step : (b : Bool) (fs : List Numbered) → nat_lt slack (length fs) ≡ b → Rising numbered_sooner fs → AllByRecursion (λ y. least ≤ (y.1).time) fs → length fs ≤ slack + 1
        → ((t : ℕ) → overtaken t (tuples fs) ≤ overtaken t (x ∷ before))
        → ((held : List Numbered) (k least : ℕ) (before : List Tuple) → Rising numbered_sooner held → AllByRecursion (λ y. least ≤ (y.1).time) held → AllByRecursion (λ x. least ≤ x.time) xs → length held ≤ slack
        → ((t : ℕ) → overtaken t (tuples held) ≤ overtaken t before) → Fits slack before xs → TimesNotFalling least (leaving slack held k xs))
        → TimesNotFalling least ((if b then first_of_all fs else []) ++ leaving slack (if b then after_first fs else fs) (k + 1) xs)
    step true [] e up low few within more = absurd (none slack e)
      where
        none : (s : ℕ) → ltb s 0 ≡ true → ⊥
        none s h = grind (arith, nat_tests)
    step true (y ∷ fs) e up low few within more = (
      low.0,
      more fs (k + 1) (y.1).time (x ∷ before) up.1 later
          (all_weaker (λ (z : Tuple). overtaken z.time (x ∷ before) ≤ slack) (λ (z : Tuple). (y.1).time ≤ z.time) (λ z h. not-less z h) xs (fits-all slack xs (x ∷ before) fit.1))
          (omega (arith, few)) (λ t. (let a = over-more t y.1 (tuples fs) in let b = within t in omega (arith, a, b))) fit.1,
    )
      where
        later : AllByRecursion (λ (z : Numbered). (y.1).time ≤ (z.1).time) fs
        later = all_weaker (λ (z : Numbered). numbered_sooner z y ≡ false) (λ (z : Numbered). (y.1).time ≤ (z.1).time) (λ z h. ltb_not (z.1).time (y.1).time h) fs up.0

        not-less : (z : Tuple) → overtaken z.time (x ∷ before) ≤ slack → (y.1).time ≤ z.time
        not-less z h =
            elim (cases_lt z.time (y.1).time) [
              | inl less ↦ (
                  let all : AllByRecursion (λ (w : Tuple). z.time < w.time) (tuples (y ∷ fs)) =
                  all-times (λ t. z.time < t) (y ∷ fs) (less, all_weaker (λ (w : Numbered). (y.1).time ≤ (w.1).time) (λ (w : Numbered). z.time < (w.1).time) (λ w le. omega (arith, less, le)) fs later) in
                  let full = over-all z.time (tuples (y ∷ fs)) all in
                  let many = length-map (y ∷ fs) (λ (a : Numbered). a.1) in
                  let most = within z.time in
                  let past = is-less slack (length (y ∷ fs)) e in
                  absurd (omega (arith, full, many, most, past, h)))
              | inr past ↦ past
            ]
          where
            is-less : (a b : ℕ) → ltb a b ≡ true → a < b
            is-less a b h = grind (arith, nat_tests)
    step false fs e up low few within more = more fs (k + 1) least (x ∷ before) up low all.1 (let le = ltb_not slack (length fs) e in omega (arith, le)) within fit.1

-- ---- a BSort

on-time-all : (least : ℕ) (xs : List Tuple) → TimesNotFalling least xs → without_late least xs ≡ xs
on-time-all least [] up = refl
on-time-all least (x ∷ xs) up =
    ap (λ b. (if b then [] else x ∷ []) ++ without_late (max least x.time) xs) (no least x.time up.0)
    ∙ ap (λ m. x ∷ without_late m xs) (let e : max least x.time ≡ x.time = (let le = up.0 in omega (arith, le)) in e)
    ∙ ap (λ l. x ∷ l) (on-time-all x.time xs up.1)
  where
    no : (a t : ℕ) → a ≤ t → ltb t a ≡ false
    no a t h = grind (arith, nat_tests)

given-is : (by slack : ℕ) (xs : List Tuple) → bsort_list_of by slack xs ≡ without_late 0 (leaving slack [] 0 (retimed by xs))
given-is by slack xs = sym (sorter-list slack (retimed by xs)) ∙ run-leaving (retimed by xs) (new_sorter slack)

pub fits-of-all : (by slack : ℕ) (xs : List Tuple) → length (bsort_list_of by slack xs) ≡ length xs → (length (retimed by xs) ≡ length xs) × Fits slack [] (retimed by xs)
fits-of-all by slack xs whole =
    let found = retimed by xs in
    let given = leaving slack [] 0 found in
    let count = leaving-count slack found [] 0 in
    let few = retimed_few by xs in
    let same = ap (λ (ts : List Tuple). length ts) (given-is by slack xs) in
    let rest = none-late 0 given (omega (arith, whole, count, few, same)) in
    let kept = ap (λ (ts : List Tuple). length ts) rest.0 in
    (omega (arith, whole, count, same, kept), fits slack found [] 0 0 [] rest.1 (omega arith) (λ t le. omega arith))

pub all-of-fits : (by slack : ℕ) (xs : List Tuple) → length (retimed by xs) ≡ length xs → Fits slack [] (retimed by xs) → length (bsort_list_of by slack xs) ≡ length xs
all-of-fits by slack xs count fit =
    let found = retimed by xs in
    let given = leaving slack [] 0 found in
    let up = rises slack found [] 0 0 [] tt tt (any found) (omega arith) (λ t. omega arith) fit in
    let same = ap (λ (ts : List Tuple). length ts) (given-is by slack xs ∙ on-time-all 0 given up) in
    let all = leaving-count slack found [] 0 in
    omega (arith, same, all, count)
  where
    any : (ys : List Tuple) → AllByRecursion (λ y. 0 ≤ y.time) ys
    any [] = tt
    any (y ∷ ys) = (omega arith, any ys)
