-- The facts that a sorter keeps, and what it gives when it is emptied.
use Rattle.std.proofs.Common.{◌≡◌, ℕ, suc, ◌+◌, ◌<◌, ◌≤◌, max, Bool, true, false, List, [], ◌∷◌, ◌++◌, map, length, Option, Some, None, pos, negsuc, refl, ap, sym, ◌∙◌, append-nil, add-zero, arith, tests}
use Rattle.std.specs.Prelude.{if◌then◌else◌, nat_lt, nat_le}
use Rattle.std.specs.List.{AllByRecursion, cons_option}
use Rattle.std.specs.Option.{IfSome, option_to_list}
use Rattle.sq_value.specs.declared.Value.{Value}
use Rattle.sq_value.specs.declared.Value.TheVariants as value
use Rattle.sq_value.specs.declared.Tuple.{Tuple}
use Rattle.sq_value.specs.Values.{field}
use Rattle.sq_lists.specs.Sorting.{Numbered, numbered_sooner, time_in, at_time, without_late}
use Rattle.sq_lists.specs.Sorters.{put_in, first_of_all, after_first, latest_of, chosen_of, kept_back, SorterState, IsSorter, sort_next, sort_gives, sort_flush, sort_run, sort_first, sort_after, timed, next_with, gives_with}
use Rattle.sq_words.proofs.Alls.{all_weaker}

-- a tuple that is given the time of its field has at most the time that it had, and the same values
pub timed-is : (by : ℕ) (x : Tuple) → IfSome (timed by x) (λ y. (y.time ≤ x.time) × (y.fields ≡ x.fields))
timed-is by x = of_value (field x.fields by)
  where
    of_number : (t : ℕ) (b : Bool) → nat_le t x.time ≡ b → IfSome (at_time x (if b then Some t else None)) (λ y. (y.time ≤ x.time) × (y.fields ≡ x.fields))
    of_number t true e = (grind (arith, tests), refl)
    of_number t false e = tt

    of_value : (v : Value) → IfSome (at_time x (time_in x.time v)) (λ y. (y.time ≤ x.time) × (y.fields ≡ x.fields))
    of_value value.Null = tt
    of_value (value.Int (pos t)) = of_number t (nat_le t x.time) refl
    of_value (value.Int (negsuc t)) = tt
    of_value (value.Bool b) = tt
    of_value (value.Text t) = tt

pub All-put : (P : Numbered → Type 0) (x : Numbered) (ys : List Numbered) → P x → AllByRecursion P ys → AllByRecursion P (put_in x ys)
All-put P x [] p all = (p, tt)
All-put P x (y ∷ ys) p all =
    elim (numbered_sooner x y) as (λ b. AllByRecursion P (if b then x ∷ y ∷ ys else y ∷ put_in x ys)) [ true ↦ (p, all) | false ↦ (all.0, All-put P x ys p all.1) ]

pub All-after : (P : Numbered → Type 0) (xs : List Numbered) → AllByRecursion P xs → AllByRecursion P (after_first xs)
All-after P [] all = tt
All-after P (x ∷ xs) all = all.1

pub All-kept : (P : Numbered → Type 0) (slack : ℕ) (xs : List Numbered) → AllByRecursion P xs → AllByRecursion P (kept_back slack xs)
All-kept P slack xs all =
    elim (nat_lt slack (length xs)) as (λ b. AllByRecursion P (if b then after_first xs else xs)) [ true ↦ All-after P xs all | false ↦ all ]

pub length-put : (x : Numbered) (ys : List Numbered) → length (put_in x ys) ≡ length ys + 1
length-put x [] = refl
length-put x (y ∷ ys) =
    elim (numbered_sooner x y) as (λ b. length (if b then x ∷ y ∷ ys else y ∷ put_in x ys) ≡ suc (length ys) + 1) [
      | true ↦ (let e : suc (suc (length ys)) ≡ suc (length ys) + 1 = omega arith in e)
      | false ↦ ap suc (length-put x ys) ∙ (let e : suc (length ys + 1) ≡ suc (length ys) + 1 = omega arith in e)
    ]

pub length-after : (xs : List Numbered) (n : ℕ) → length xs ≤ n + 1 → length (after_first xs) ≤ n
length-after [] n h = omega arith
length-after (x ∷ xs) n h = omega arith

length-kept-by : (slack : ℕ) (xs : List Numbered) → length xs ≤ slack + 1 → (b : Bool) → nat_lt slack (length xs) ≡ b → length (if b then after_first xs else xs) ≤ slack
length-kept-by slack xs h true e = length-after xs slack h
length-kept-by slack xs h false e = grind (arith, tests)

-- what goes out is at most what was held
first-length : (latest : ℕ) (xs : List Numbered) → length (without_late latest (first_of_all xs)) + length (after_first xs) ≤ length xs
first-length latest [] = omega arith
first-length latest (x ∷ xs) =
    elim (nat_lt (x.1).time latest) as (λ b. length ((if b then [] else x.1 ∷ []) ++ []) + length xs ≤ suc (length xs)) [ true ↦ omega arith | false ↦ omega arith ]

chosen-length : (latest slack : ℕ) (xs : List Numbered) → length (without_late latest (chosen_of slack xs)) + length (kept_back slack xs) ≤ length xs
chosen-length latest slack xs =
    elim (nat_lt slack (length xs)) as (λ b. length (without_late latest (if b then first_of_all xs else [])) + length (if b then after_first xs else xs) ≤ length xs) [
      | true ↦ first-length latest xs
      | false ↦ omega arith
    ]

pub next-keeps : (s : SorterState) (x : Tuple) → IsSorter s → IsSorter (sort_next s x)
next-keeps s x h =
    let full = put_in (s.number, x) s.held in
    record {
      below = All-kept (λ a. a.0 < s.number + 1) s.slack full
          (All-put (λ a. a.0 < s.number + 1) (s.number, x) s.held (omega arith) (all_weaker (λ a. a.0 < s.number) (λ a. a.0 < s.number + 1) (λ a k. omega (arith, k)) s.held h.below));
      few = length-kept-by s.slack full (rw (length-put (s.number, x) s.held) (omega (arith, h.few))) (nat_lt s.slack (length full)) refl;
      counted = omega (arith, chosen-length s.latest s.slack full, length-put (s.number, x) s.held, h.counted);
    }

pub after-keeps : (s : SorterState) → IsSorter s → IsSorter (sort_after s)
after-keeps s h = record {
  below = All-after (λ a. a.0 < s.number) s.held h.below;
  few = length-after s.held s.slack (omega (arith, h.few));
  counted = omega (arith, first-length s.latest s.held, h.counted);
}

-- the first of the flush, and then the rest
pub flush-first : (s : SorterState) → sort_flush s ≡ sort_first s ++ sort_flush (sort_after s)
flush-first s = by s.latest s.held
  where
    by : (latest : ℕ) (held : List Numbered)
        → without_late latest (map (λ a. a.1) held)
        ≡ without_late latest (first_of_all held) ++ without_late (latest_of latest (first_of_all held)) (map (λ a. a.1) (after_first held))
    by latest [] = refl
    by latest (x ∷ xs) =
        let first = (if nat_lt (x.1).time latest then [] else x.1 ∷ []) in
        ap (λ l. l ++ without_late (max latest (x.1).time) (map (λ a. a.1) xs)) (sym (append-nil first))

-- one tuple more, where its field is a time
pub run-step : (s : SorterState) (o : Option Tuple) (xs : List Tuple) → sort_run s (cons_option o xs) ≡ gives_with s o ++ sort_run (next_with s o) xs
run-step s None xs = refl
run-step s (Some x) xs = refl

-- one tuple more in the map, where nothing goes out
pub put-few : (s : SorterState) (x : Tuple) (full : List Numbered) → full ≡ put_in (s.number, x) s.held → length full ≤ s.slack
    → (record { slack = s.slack; held = full; number = s.number + 1; latest = s.latest; given = s.given } ≡ sort_next s x) × ([] ≡ sort_gives s x)
put-few s x full is few =
    let e : nat_lt s.slack (length (put_in (s.number, x) s.held)) ≡ false = rw (← is) (grind (arith, tests)) in
    simp (e, is, add-zero) (refl, refl)

-- and where the first goes out
pub put-full : (s : SorterState) (x : Tuple) (full held : List Numbered) (latest more : ℕ) (o : Option Tuple) → full ≡ put_in (s.number, x) s.held → s.slack < length full
    → held ≡ after_first full → latest ≡ latest_of s.latest (first_of_all full) → option_to_list o ≡ without_late s.latest (first_of_all full) → more ≡ length (option_to_list o)
    → (record { slack = s.slack; held = held; number = s.number + 1; latest = latest; given = s.given + more } ≡ sort_next s x) × (option_to_list o ≡ sort_gives s x)
put-full s x full held latest more o is over eh el eo em =
    let F = put_in (s.number, x) s.held in
    let e : nat_lt s.slack (length (put_in (s.number, x) s.held)) ≡ true = rw (← is) (grind (arith, tests)) in
    let h1 : held ≡ kept_back s.slack F = eh ∙ ap after_first is ∙ sym (ap (λ b. if b then after_first F else F) e) in
    let h2 : latest ≡ latest_of s.latest (chosen_of s.slack F) =
    el ∙ ap (λ l. latest_of s.latest (first_of_all l)) is ∙ sym (ap (λ b. latest_of s.latest (if b then first_of_all F else [])) e) in
    let h3 : option_to_list o ≡ sort_gives s x =
    eo ∙ ap (λ l. without_late s.latest (first_of_all l)) is ∙ sym (ap (λ b. without_late s.latest (if b then first_of_all F else [])) e) in
    let h4 : more ≡ length (sort_gives s x) = em ∙ ap length h3 in
    (rw (h1, h2, h4) refl, h3)
