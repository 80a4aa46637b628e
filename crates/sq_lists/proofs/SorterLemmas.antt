-- A sorter of tuples in the order of their numbers gives what BSort's rule chooses.
use Rattle.std.proofs.Common.{◌≡◌, ℕ, zero, suc, ◌+◌, ◌<◌, ◌≤◌, max, Bool, true, false, cond, not, List, [], ◌∷◌, ◌++◌, map, length, Option, Some, None, refl, ap, sym, ◌∙◌, append_assoc, append-nil, length-append, arith, tests}
use Rattle.std.specs.Prelude.{if◌then◌else◌, nat_lt, nat_le, ◌==◌}
use Rattle.std.specs.List.{AllByRecursion, filter, enumerate_from}
use Rattle.std.specs.Option.{IfSome}
use Rattle.std.proofs.lemmas.List.Elements.{filter-append}
use Rattle.sq_value.specs.declared.Tuple.{Tuple}
use Rattle.sq_words.specs.Lists.{insert_by, sort_by, least_by, lesser}
use Rattle.sq_lists.specs.Sorting.{Numbered, numbered_sooner, without_number, tuple_if, sorted_within, without_late}
use Rattle.sq_lists.specs.Sorters.{put_in, first_of_all, after_first, SorterState, new_sorter, latest_of, chosen_of, kept_back, sort_next, sort_gives, sort_run}
use Rattle.sq_lists.proofs.LeastLemmas.{first_option, rest_of, rem_with, rem_least, least-sort, rem-sort, holds-least, All-rem}
use Rattle.sq_words.proofs.Alls.{all_weaker, all_push}
use Rattle.sq_words.proofs.Numbers.{nat_le_true}

-- the numbers ascend
abbrev Ascend : List Numbered → Type 0
Ascend [] = Unit {0}
Ascend (a ∷ more) = AllByRecursion (λ b. a.0 < b.0) more × Ascend more

filter-all : {X : Type 0} (p : X → Bool) (xs : List X) → AllByRecursion (λ x. p x ≡ true) xs → filter p xs ≡ xs
filter-all p [] all = refl
filter-all p (x ∷ xs) all = ap (λ b. cond b (x ∷ filter p xs) (filter p xs)) all.0 ∙ ap (λ l. x ∷ l) (filter-all p xs all.1)

filter-none : {X : Type 0} (p : X → Bool) (xs : List X) → AllByRecursion (λ x. p x ≡ false) xs → filter p xs ≡ []
filter-none p [] all = refl
filter-none p (x ∷ xs) all = ap (λ b. cond b (x ∷ filter p xs) (filter p xs)) all.0 ∙ filter-none p xs all.1

apart : (a b : ℕ) → a < b → not (b == a) ≡ true
apart a b h = grind arith

apart' : (a b : ℕ) → a < b → not (a == b) ≡ true
apart' a b h = grind arith

same : (a : ℕ) → not (a == a) ≡ false
same a = grind arith

-- taking out the least by its number
without-with : (x : Numbered) (l : Option Numbered) (xs less : List Numbered) → AllByRecursion (λ b. x.0 < b.0) xs → IfSome l (λ y. x.0 < y.0) → without_number l xs ≡ less
    → without_number (Some (lesser numbered_sooner x l)) (x ∷ xs) ≡ rem_with numbered_sooner x l xs less
without-with x None xs less later h eq =
    ap (λ b. cond b (x ∷ filter (λ b. not (b.0 == x.0)) xs) (filter (λ b. not (b.0 == x.0)) xs)) (same x.0)
    ∙ filter-all (λ b. not (b.0 == x.0)) xs (all_weaker (λ b. x.0 < b.0) (λ b. not (b.0 == x.0) ≡ true) (λ b k. apart x.0 b.0 k) xs later)
without-with x (Some y) xs less later h eq =
    elim (numbered_sooner y x) as (λ b. without_number (Some (if b then y else x)) (x ∷ xs) ≡ (if b then x ∷ less else xs)) [
      | true ↦ ap (λ b. cond b (x ∷ filter (λ b. not (b.0 == y.0)) xs) (filter (λ b. not (b.0 == y.0)) xs)) (apart' x.0 y.0 h) ∙ ap (λ l. x ∷ l) eq
      | false ↦ ap (λ b. cond b (x ∷ filter (λ b. not (b.0 == x.0)) xs) (filter (λ b. not (b.0 == x.0)) xs)) (same x.0)
          ∙ filter-all (λ b. not (b.0 == x.0)) xs (all_weaker (λ b. x.0 < b.0) (λ b. not (b.0 == x.0) ≡ true) (λ b k. apart x.0 b.0 k) xs later)
    ]

without-least : (xs : List Numbered) → Ascend xs → without_number (least_by numbered_sooner xs) xs ≡ rem_least numbered_sooner xs
without-least [] up = refl
without-least (x ∷ xs) up =
    without-with x (least_by numbered_sooner xs) xs (rem_least numbered_sooner xs) up.0 (holds-least numbered_sooner (λ y. x.0 < y.0) xs up.0) (without-least xs up.1)

Ascend-rem-with : (x : Numbered) (l : Option Numbered) (xs less : List Numbered) → AllByRecursion (λ b. x.0 < b.0) less → Ascend xs → Ascend less
    → Ascend (rem_with numbered_sooner x l xs less)
Ascend-rem-with x None xs less h up up' = up
Ascend-rem-with x (Some y) xs less h up up' = elim (numbered_sooner y x) as (λ b. Ascend (if b then x ∷ less else xs)) [ true ↦ (h, up') | false ↦ up ]

Ascend-rem : (xs : List Numbered) → Ascend xs → Ascend (rem_least numbered_sooner xs)
Ascend-rem [] up = tt
Ascend-rem (x ∷ xs) up =
    Ascend-rem-with x (least_by numbered_sooner xs) xs (rem_least numbered_sooner xs) (All-rem numbered_sooner (λ b. x.0 < b.0) xs up.0) up.1 (Ascend-rem xs up.1)

Ascend-push : (k : ℕ) (x : Tuple) (xs : List Numbered) → AllByRecursion (λ b. b.0 < k) xs → Ascend xs → Ascend (xs ++ (k, x) ∷ [])
Ascend-push k x [] below up = (tt, tt)
Ascend-push k x (y ∷ ys) below up = (all_push (λ b. y.0 < b.0) ys (k, x) up.0 below.0, Ascend-push k x ys below.1 up.1)

length-rem : (x : Numbered) (xs : List Numbered) → length (rem_least numbered_sooner (x ∷ xs)) ≡ length xs
length-rem x [] = refl
length-rem x (y ∷ ys) =
    elim (numbered_sooner (lesser numbered_sooner y (least_by numbered_sooner ys)) x) as (λ b. length (if b then x ∷ rem_least numbered_sooner (y ∷ ys) else y ∷ ys) ≡ suc (length ys)) [
      | true ↦ ap suc (length-rem y ys)
      | false ↦ refl
    ]

both-sooner : (a b c : ℕ) → nat_lt a b ≡ true → nat_lt b c ≡ true → nat_lt a c ≡ true
both-sooner a b c h k = grind (arith, tests)

neither-sooner : (a b c : ℕ) → nat_lt a b ≡ false → nat_lt b c ≡ false → nat_lt a c ≡ false
neither-sooner a b c h k = grind (arith, tests)

insert-put-step : (z x y : Numbered) (ys : List Numbered) → insert_by numbered_sooner z (put_in x ys) ≡ put_in x (insert_by numbered_sooner z ys)
    → (a b : Bool) → numbered_sooner x y ≡ a → numbered_sooner y z ≡ b
    → insert_by numbered_sooner z (put_in x (y ∷ ys)) ≡ put_in x (insert_by numbered_sooner z (y ∷ ys))
insert-put-step z x y ys ih true true ea eb = simp (ea, eb, both-sooner (x.1).time (y.1).time (z.1).time ea eb)
insert-put-step z x y ys ih true false ea eb = simp (ea, eb)
insert-put-step z x y ys ih false true ea eb = simp (ea, eb, ih)
insert-put-step z x y ys ih false false ea eb = simp (ea, eb, neither-sooner (x.1).time (y.1).time (z.1).time ea eb)

insert-put : (z x : Numbered) (ys : List Numbered) → insert_by numbered_sooner z (put_in x ys) ≡ put_in x (insert_by numbered_sooner z ys)
insert-put z x [] = refl
insert-put z x (y ∷ ys) = insert-put-step z x y ys (insert-put z x ys) (numbered_sooner x y) (numbered_sooner y z) refl refl

-- the last to come stands behind those that aren't later
sort-push : (x : Numbered) (xs : List Numbered) → sort_by numbered_sooner (xs ++ x ∷ []) ≡ put_in x (sort_by numbered_sooner xs)
sort-push x [] = refl
sort-push x (y ∷ ys) = ap (insert_by numbered_sooner y) (sort-push x ys) ∙ insert-put y x (sort_by numbered_sooner ys)

length-insert : (x : Numbered) (xs : List Numbered) → length (insert_by numbered_sooner x xs) ≡ suc (length xs)
length-insert x [] = refl
length-insert x (y ∷ ys) =
    elim (numbered_sooner y x) as (λ b. length (if b then y ∷ insert_by numbered_sooner x ys else x ∷ y ∷ ys) ≡ suc (suc (length ys))) [ true ↦ ap suc (length-insert x ys) | false ↦ refl ]

length-sort : (xs : List Numbered) → length (sort_by numbered_sooner xs) ≡ length xs
length-sort [] = refl
length-sort (x ∷ xs) = length-insert x (sort_by numbered_sooner xs) ∙ ap suc (length-sort xs)

le-false : (a b : ℕ) → b < a → nat_le a b ≡ false
le-false a b h = grind (arith, tests)

first-and-rest : (S : List Numbered) → tuple_if (first_option S) ++ map (λ a. a.1) (rest_of S) ≡ map (λ a. a.1) S
first-and-rest [] = refl
first-and-rest (x ∷ xs) = refl

choose-one : (slack j n : ℕ) (xs within more : List Numbered) → filter (λ a. nat_le a.0 (j + slack)) (within ++ more) ≡ within
    → without_number (least_by numbered_sooner within) (within ++ more) ≡ rem_least numbered_sooner within ++ more
    → sorted_within slack j (suc n) (within ++ more) ≡ tuple_if (first_option (sort_by numbered_sooner within)) ++ sorted_within slack (j + 1) n (rem_least numbered_sooner within ++ more)
choose-one slack j n xs within more e e' =
    ap (λ l. tuple_if (least_by numbered_sooner l) ++ sorted_within slack (j + 1) n (without_number (least_by numbered_sooner l) (within ++ more))) e
    ∙ ap (λ l. tuple_if (least_by numbered_sooner within) ++ sorted_within slack (j + 1) n l) e'
    ∙ ap (λ o. tuple_if o ++ sorted_within slack (j + 1) n (rem_least numbered_sooner within ++ more)) (least-sort numbered_sooner within)

-- where no more come, the held ones are given in order
drain : (slack j n : ℕ) (xs : List Numbered) → length xs ≡ n → Ascend xs → AllByRecursion (λ b. b.0 ≤ j + slack) xs
    → sorted_within slack j n xs ≡ map (λ a. a.1) (sort_by numbered_sooner xs)
drain slack j zero [] len up low = refl
drain slack j zero (x ∷ xs) len up low = absurd (grind arith)
drain slack j (suc n) [] len up low = absurd (grind arith)
drain slack j (suc n) (x ∷ xs) len up low =
    let all = x ∷ xs in
    let later = drain slack (j + 1) n (rem_least numbered_sooner all) (length-rem x xs ∙ grind arith) (Ascend-rem all up)
    (all_weaker (λ b. b.0 ≤ j + slack) (λ b. b.0 ≤ j + 1 + slack) (λ b k. omega arith) (rem_least numbered_sooner all) (All-rem numbered_sooner (λ b. b.0 ≤ j + slack) all low)) in
    let kept : filter (λ a. nat_le a.0 (j + slack)) all ≡ all =
    filter-all (λ a. nat_le a.0 (j + slack)) all (all_weaker (λ b. b.0 ≤ j + slack) (λ b. nat_le b.0 (j + slack) ≡ true) (λ b k. nat_le_true b.0 (j + slack) k) all low) in
    ap (λ l. tuple_if (least_by numbered_sooner l) ++ sorted_within slack (j + 1) n (without_number (least_by numbered_sooner l) all)) kept
    ∙ ap (λ l. tuple_if (least_by numbered_sooner all) ++ sorted_within slack (j + 1) n l) (without-least all up)
    ∙ ap (λ o. tuple_if o ++ sorted_within slack (j + 1) n (rem_least numbered_sooner all)) (least-sort numbered_sooner all)
    ∙ ap (λ l. tuple_if (first_option (sort_by numbered_sooner all)) ++ l) (later ∙ ap (map (λ a. a.1)) (rem-sort numbered_sooner all))
    ∙ first-and-rest (sort_by numbered_sooner all)

-- what a sorter chooses, the late ones too
abbrev raw : ℕ → List Numbered → ℕ → List Tuple → List Tuple
raw slack held k [] = map (λ a. a.1) held
raw slack held k (x ∷ xs) = let full = put_in (k, x) held in chosen_of slack full ++ raw slack (kept_back slack full) (k + 1) xs

first-of : (S : List Numbered) → first_of_all S ≡ tuple_if (first_option S)
first-of [] = refl
first-of (x ∷ xs) = refl

after-of : (S : List Numbered) → after_first S ≡ rest_of S
after-of [] = refl
after-of (x ∷ xs) = refl

enumerate-above : (k n : ℕ) (xs : List Tuple) → k < n → AllByRecursion (λ b. k < b.0) (enumerate_from n xs)
enumerate-above k n [] h = tt
enumerate-above k n (x ∷ xs) h = (h, enumerate-above k (n + 1) xs (omega arith))

-- the numbers after those within don't matter for a choice
within-front : (m : ℕ) (within more : List Numbered) → AllByRecursion (λ b. b.0 ≤ m) within → AllByRecursion (λ b. m < b.0) more
    → filter (λ a. nat_le a.0 m) (within ++ more) ≡ within
within-front m within more low high =
    filter-append (λ a. nat_le a.0 m) within more
    ∙ ap (λ l. l ++ filter (λ a. nat_le a.0 m) more) (filter-all (λ a. nat_le a.0 m) within (all_weaker (λ b. b.0 ≤ m) (λ b. nat_le b.0 m ≡ true) (λ b k. nat_le_true b.0 m k) within low))
    ∙ ap (λ l. within ++ l) (filter-none (λ a. nat_le a.0 m) more (all_weaker (λ b. m < b.0) (λ b. nat_le b.0 m ≡ false) (λ b k. le-false b.0 m k) more high))
    ∙ append-nil within

without-append : (m : ℕ) (o : Option Numbered) (within more : List Numbered) → IfSome o (λ b. b.0 ≤ m) → AllByRecursion (λ b. m < b.0) more
    → without_number o (within ++ more) ≡ without_number o within ++ more
without-append m None within more low high = refl
without-append m (Some a) within more low high =
    filter-append (λ b. not (b.0 == a.0)) within more
    ∙ ap (λ l. filter (λ b. not (b.0 == a.0)) within ++ l)
    (filter-all (λ b. not (b.0 == a.0)) more (all_weaker (λ b. m < b.0) (λ b. not (b.0 == a.0) ≡ true) (λ b k. apart a.0 b.0 (omega arith)) more high))

module _ (slack : ℕ) where
  -- one step, where the sorter is full
  step-full : (j k : ℕ) (within more : List Numbered) (n : ℕ) → Ascend within → j + slack ≡ k
      → AllByRecursion (λ b. b.0 ≤ k) within → AllByRecursion (λ b. k < b.0) more
      → sorted_within slack j (suc n) (within ++ more) ≡ first_of_all (sort_by numbered_sooner within) ++ sorted_within slack (j + 1) n (rem_least numbered_sooner within ++ more)
  step-full j k within more n up at low high =
      choose-one slack j n within within more
      (ap (λ m. filter (λ a. nat_le a.0 m) (within ++ more)) at ∙ within-front k within more low high)
      (without-append k (least_by numbered_sooner within) within more (holds-least numbered_sooner (λ b. b.0 ≤ k) within low) high ∙ ap (λ l. l ++ more) (without-least within up))
      ∙ ap (λ l. l ++ sorted_within slack (j + 1) n (rem_least numbered_sooner within ++ more)) (sym (first-of (sort_by numbered_sooner within)))

  below-push : (k : ℕ) (x : Tuple) (xs : List Numbered) → AllByRecursion (λ b. b.0 < k) xs → AllByRecursion (λ b. b.0 < k + 1) (xs ++ (k, x) ∷ [])
  below-push k x xs below =
      all_push (λ b. b.0 < k + 1) xs (k, x) (all_weaker (λ b. b.0 < k) (λ b. b.0 < k + 1) (λ b h. omega arith) xs below) (omega arith)

  length-push : (k : ℕ) (x : Tuple) (xs : List Numbered) → length (xs ++ (k, x) ∷ []) ≡ length xs + 1
  length-push k x xs = length-append xs ((k, x) ∷ [])

  length-rem-push : (k : ℕ) (x : Tuple) (xs : List Numbered) → length (rem_least numbered_sooner (xs ++ (k, x) ∷ [])) ≡ length xs
  length-rem-push k x [] = refl
  length-rem-push k x (y ∷ ys) = length-rem y (ys ++ (k, x) ∷ []) ∙ length-push k x ys ∙ grind arith

  raw-step : (x : Tuple) (xs : List Tuple) (j k : ℕ) (held : List Numbered) → Ascend held → AllByRecursion (λ b. b.0 < k) held → length held + j ≡ k → length held ≤ slack
      → ((j' k' : ℕ) (held' : List Numbered) → Ascend held' → AllByRecursion (λ b. b.0 < k') held' → length held' + j' ≡ k' → length held' ≤ slack
      → raw slack (sort_by numbered_sooner held') k' xs ≡ sorted_within slack j' (length held' + length xs) (held' ++ enumerate_from k' xs))
      → (b : Bool) → nat_lt slack (length (sort_by numbered_sooner (held ++ (k, x) ∷ []))) ≡ b
      → (if b then first_of_all (sort_by numbered_sooner (held ++ (k, x) ∷ [])) else [])
      ++ raw slack (if b then after_first (sort_by numbered_sooner (held ++ (k, x) ∷ [])) else sort_by numbered_sooner (held ++ (k, x) ∷ [])) (k + 1) xs
      ≡ sorted_within slack j (length held + suc (length xs)) ((held ++ (k, x) ∷ []) ++ enumerate_from (k + 1) xs)
  raw-step x xs j k held up below at room ih true e =
      let grown = held ++ (k, x) ∷ [] in
      let full : slack < length held + 1 = rw (← length-push k x held, ← length-sort grown) (grind (arith, tests)) in
      let later = ih (j + 1) (k + 1) (rem_least numbered_sooner grown) (Ascend-rem grown (Ascend-push k x held below up))
      (All-rem numbered_sooner (λ b. b.0 < k + 1) grown (below-push k x held below)) (rw (length-rem-push k x held) (omega arith)) (rw (length-rem-push k x held) room) in
      ap (λ l. first_of_all (sort_by numbered_sooner grown) ++ raw slack l (k + 1) xs) (after-of (sort_by numbered_sooner grown) ∙ sym (rem-sort numbered_sooner grown))
      ∙ ap (λ l. first_of_all (sort_by numbered_sooner grown) ++ l) (later ∙ ap (λ n. sorted_within slack (j + 1) (n + length xs) (rem_least numbered_sooner grown ++ enumerate_from (k + 1) xs)) (length-rem-push k x held))
      ∙ sym (step-full j k grown (enumerate_from (k + 1) xs) (length held + length xs) (Ascend-push k x held below up) (omega arith)
      (all_weaker (λ b. b.0 < k + 1) (λ b. b.0 ≤ k) (λ b h. omega arith) grown (below-push k x held below)) (enumerate-above k (k + 1) xs (omega arith)))
      ∙ ap (λ n. sorted_within slack j n (grown ++ enumerate_from (k + 1) xs)) (let e : suc (length held + length xs) ≡ length held + suc (length xs) = omega arith in e)
  raw-step x xs j k held up below at room ih false e =
      let grown = held ++ (k, x) ∷ [] in
      let fits : length held + 1 ≤ slack = rw (← length-push k x held, ← length-sort grown) (grind (arith, tests)) in
      ih j (k + 1) grown (Ascend-push k x held below up) (below-push k x held below) (rw (length-push k x held) (omega arith)) (rw (length-push k x held) fits)
      ∙ ap (λ n. sorted_within slack j n (grown ++ enumerate_from (k + 1) xs)) (ap (λ n. n + length xs) (length-push k x held) ∙ omega arith)

  pub raw-chosen : (xs : List Tuple) (j k : ℕ) (held : List Numbered) → Ascend held → AllByRecursion (λ b. b.0 < k) held → length held + j ≡ k → length held ≤ slack
      → raw slack (sort_by numbered_sooner held) k xs ≡ sorted_within slack j (length held + length xs) (held ++ enumerate_from k xs)
  raw-chosen [] j k held up below at room =
      sym (ap (λ l. sorted_within slack j (length held + 0) l) (append-nil held)
      ∙ drain slack j (length held + 0) held (omega arith) up (all_weaker (λ b. b.0 < k) (λ b. b.0 ≤ j + slack) (λ b h. omega arith) held below))
  raw-chosen (x ∷ xs) j k held up below at room =
      ap (λ full. chosen_of slack full ++ raw slack (kept_back slack full) (k + 1) xs) (sym (sort-push (k, x) held))
      ∙ raw-step x xs j k held up below at room (raw-chosen xs) (nat_lt slack (length (sort_by numbered_sooner (held ++ (k, x) ∷ [])))) refl
      ∙ ap (λ l. sorted_within slack j (length held + suc (length xs)) l) (append_assoc held ((k, x) ∷ []) (enumerate_from (k + 1) xs))

pub without_late-append : (latest : ℕ) (xs ys : List Tuple) → without_late latest (xs ++ ys) ≡ without_late latest xs ++ without_late (latest_of latest xs) ys
without_late-append latest [] ys = refl
without_late-append latest (x ∷ xs) ys =
    ap (λ l. (if nat_lt x.time latest then [] else x ∷ []) ++ l) (without_late-append (max latest x.time) xs ys)
    ∙ sym (append_assoc (if nat_lt x.time latest then [] else x ∷ []) (without_late (max latest x.time) xs) (without_late (latest_of (max latest x.time) xs) ys))

run-raw : (xs : List Tuple) (s : SorterState) → sort_run s xs ≡ without_late s.latest (raw s.slack s.held s.number xs)
run-raw [] s = refl
run-raw (x ∷ xs) s =
    let full = put_in (s.number, x) s.held in
    ap (λ l. sort_gives s x ++ l) (run-raw xs (sort_next s x))
    ∙ sym (without_late-append s.latest (chosen_of s.slack full) (raw s.slack (kept_back s.slack full) (s.number + 1) xs))

-- a new sorter gives what BSort's rule chooses
pub sorter-list : (slack : ℕ) (xs : List Tuple) → sort_run (new_sorter slack) xs ≡ without_late 0 (sorted_within slack 0 (length xs) (enumerate_from 0 xs))
sorter-list slack xs =
    run-raw xs (new_sorter slack)
    ∙ ap (without_late 0) (raw-chosen slack xs 0 0 [] tt tt refl (omega arith) ∙ ap (λ n. sorted_within slack 0 n (enumerate_from 0 xs)) (omega arith))
