-- A text that a run may write where it ends well has no fault.
use Rattle.std.proofs.Common.{◌≡◌, ◌⊎◌, inl, inr, ℕ, zero, suc, ◌+◌, ◌<◌, Bool, true, false, not, ◌&&◌, ◌||◌, ◌==◌, List, [], ◌∷◌, ◌++◌, length, refl, ap, sym, ◌∙◌, subst, arith, append_assoc, append-nil, Option, Some, None}
use Rattle.std.specs.Prelude.{slice_get, codes, map, nat_lt, nat_le}
use Rattle.std.specs.List.{filter, find, flat_map, list_all, list_any, range_with_len}
use Rattle.std.proofs.lemmas.Bool.{cases_Bool, and_parts, not-true, or_parts, false_from_ne_true}
use Rattle.std.proofs.lemmas.Bool.Decides.{nat_tests}
use Rattle.std.proofs.lemmas.List.Folds.{list_all-append}
use Rattle.sq_words.specs.Lists.{same_bytes, contains_bytes, are_distinct, numbers_to, max_by}
use Rattle.sq_lines.specs.LineTexts.{end_line}
use Rattle.std.specs.Fmt.{decimal}
use Rattle.std.proofs.lemmas.Option.{same_Some}
use Rattle.sq_lines.specs.Classes.{Class, Shown, Dropped, Planned, Ended, first_field, second_field, is_of_class, of_class, whole_lines, unfinished}
use Rattle.sq_verdict.specs.declared.verdict.Verdict.TheVariants as verdict
use Rattle.sq_verdict.specs.Faults.{Lines, drop_told_in, batch_of, recorded, batch_rises, is_end, has_word, output_told_in, word_fault, class_fault, fault_of, ends_with_end, is_short, verdict_from, verdict_on}
use Rattle.sq_wanted.specs.Showing.{has_first, is_next, is_line_at, count_of}
use Rattle.sq_verdict.specs.WholeTexts.{Expected, IsWhole, is_expected}
use Rattle.sq_verdict.proofs.WholeWords.{IsSoundDue}
use Rattle.sq_words.proofs.Bools.{or_cases}
use Rattle.sq_words.proofs.Lists.{same_bytes_true, same_bytes_itself, same_bytes_turned, get_next, cons_parts}

-- ---- outputs, of which each name stands once

abbrev names : Lines → List (List ℕ)
names os = map (λ o. o.0) os

none_picked : (name : List ℕ) (os : Lines) → contains_bytes name (names os) ≡ false → filter (λ x. same_bytes x.0 name) os ≡ []
none_picked name [] h = refl
none_picked name (o ∷ os) h =
    let parts = or_parts (same_bytes name o.0) (contains_bytes name (names os)) h in
    rw (same_bytes_turned name o.0 parts.0) (none_picked name os parts.1)

not_contained : (name : List ℕ) (front : Lines) (o : List ℕ × List (List ℕ)) (back : Lines) → contains_bytes name (names (front ++ (o ∷ back))) ≡ false → same_bytes name o.0 ≡ false
not_contained name [] o back h = (or_parts (same_bytes name o.0) (contains_bytes name (names back)) h).0
not_contained name (x ∷ front) o back h =
    not_contained name front o back (or_parts (same_bytes name x.0) (contains_bytes name (names (front ++ (o ∷ back)))) h).1

picked_one : (front : Lines) (o : List ℕ × List (List ℕ)) (back : Lines) → are_distinct (names (front ++ (o ∷ back))) ≡ true
    → filter (λ x. same_bytes x.0 o.0) (front ++ (o ∷ back)) ≡ o ∷ []
picked_one [] o back h =
    let parts = and_parts (not (contains_bytes o.0 (names back))) (are_distinct (names back)) h in
    rw (same_bytes_itself o.0) (ap (λ xs. o ∷ xs) (none_picked o.0 back (not-true (contains_bytes o.0 (names back)) parts.0)))
picked_one (x ∷ front) o back h =
    let all = names (front ++ (o ∷ back)) in
    let parts = and_parts (not (contains_bytes x.0 all)) (are_distinct all) h in
    rw (not_contained x.0 front o back (not-true (contains_bytes x.0 all) parts.0)) (picked_one front o back parts.1)

-- an element of a list, and where it stands
pub record Split {X : Type 0} (xs : List X) (x : X) : Type 0 where
  front : List X
  back : List X
  is : xs ≡ front ++ (x ∷ back)

split_more : {X : Type 0} (y : X) (xs : List X) (x : X) → Split xs x → Split (y ∷ xs) x
split_more y xs x s = record { front = y ∷ s.front; back = s.back; is = ap (λ z. y ∷ z) s.is }

pub record Found {X : Type 0} (p : X → Bool) (xs : List X) (x : X) : Type 0 where
  at : Split xs x
  pub passes : p x ≡ true

find_first : {X : Type 0} (p : X → Bool) (t : Bool) (y : X) (xs : List X) (x : X) → p y ≡ t → (find p xs ≡ Some x → Found p xs x) → find p (y ∷ xs) ≡ Some x → Found p (y ∷ xs) x
find_first p true y xs x e more h =
    let same : y ≡ x = same_Some y x (rw e at h) in
    record { at = record { front = []; back = xs; is = ap (λ z. z ∷ xs) same }; passes = subst (λ z. p z ≡ true) same e }
find_first p false y xs x e more h =
    let m = more (rw e at h) in record { at = split_more y xs x m.at; passes = m.passes }

pub found : {X : Type 0} (p : X → Bool) (xs : List X) (x : X) → find p xs ≡ Some x → Found p xs x
found p [] x h = cc
found p (y ∷ xs) x h = find_first p (p y) y xs x refl (found p xs x) h

pub any_none : {X : Type 0} (p : X → Bool) (xs : List X) → find p xs ≡ None → list_any p xs ≡ false
any_none p [] h = refl
any_none p (y ∷ xs) h = elim (cases_Bool (p y)) [
  | inl holds ↦ let some : find p (y ∷ xs) ≡ Some y = rw holds refl in cc
  | inr fails ↦ rw fails (any_none p xs (rw fails at h))
]

record Number (p : ℕ → Bool) (n : ℕ) : Type 0 where
  item : ℕ
  low : item < n
  passes : p item ≡ true

any_number : (p : ℕ → Bool) (a n : ℕ) → list_any p (range_with_len a n) ≡ true → Number p (a + n)
any_number p a zero h = cc
any_number p a (suc n) h = elim (cases_Bool (p a)) [
  | inl holds ↦ record { item = a; low = omega arith; passes = holds }
  | inr fails ↦ let m = any_number p (a + 1) n (rw fails at h) in let low = m.low in record { item = m.item; low = omega (arith, low); passes = m.passes }
]

any_at : {X : Type 0} (p : X → Bool) (front : List X) (x : X) (back : List X) → p x ≡ true → list_any p (front ++ (x ∷ back)) ≡ true
any_at p [] x back h = rw h refl
any_at p (y ∷ front) x back h = rw (any_at p front x back h) (grind arith)

all_at : {X : Type 0} (p : X → Bool) (front : List X) (x : X) (back : List X) → list_all p (front ++ (x ∷ back)) ≡ true → p x ≡ true
all_at p [] x back h = (and_parts (p x) (list_all p back) h).0
all_at p (y ∷ front) x back h = all_at p front x back (and_parts (p y) (list_all p (front ++ (x ∷ back))) h).1

filter_at : {X : Type 0} (p : X → Bool) (front : List X) (x : X) (back : List X) → p x ≡ true → filter p (front ++ (x ∷ back)) ≡ filter p front ++ (x ∷ filter p back)
filter_at p [] x back h = rw h refl
filter_at p (y ∷ front) x back h = elim (cases_Bool (p y)) [
  | inl holds ↦ rw (holds, filter_at p front x back h) refl
  | inr fails ↦ rw (fails, filter_at p front x back h) refl
]

-- a line that records a batch of a drop is of the drop's class
abbrev pub DropsHaveClass : ℕ → Type 0
DropsHaveClass drops = (l : List ℕ) (w b : ℕ) → drop_told_in drops l ≡ Some (w, b) → is_of_class (Dropped w) l ≡ true

-- ---- what is recorded of a drop stands in the lines of its class
module _ (drops : ℕ) (classes : DropsHaveClass drops) (w : ℕ) where
  none_of_drop : (o : Option (ℕ × ℕ)) (l : List ℕ) → drop_told_in drops l ≡ o → is_of_class (Dropped w) l ≡ false → batch_of w o ≡ []
  none_of_drop None l e h = refl
  none_of_drop (Some d) l e h = elim (cases_Bool (d.0 == w)) [
    | inl holds ↦ let same : d.0 ≡ w = grind (arith, nat_tests, holds) in
        let class : is_of_class (Dropped w) l ≡ true = subst (λ k. is_of_class (Dropped k) l ≡ true) same (classes l d.0 d.1 e) in cc
    | inr fails ↦ rw fails refl
  ]

  pub recorded_of_class : (ls : List (List ℕ)) → recorded drops (filter (is_of_class (Dropped w)) ls) w ≡ recorded drops ls w
  recorded_of_class [] = refl
  recorded_of_class (l ∷ ls) = elim (cases_Bool (is_of_class (Dropped w) l)) [
    | inl holds ↦ rw holds (ap (λ bs. batch_of w (drop_told_in drops l) ++ bs) (recorded_of_class ls))
    | inr fails ↦ rw (fails, none_of_drop (drop_told_in drops l) l refl fails) (recorded_of_class ls)
  ]

-- ---- where a line stands among those that end with the last one
abbrev q : List ℕ → Bool
q l = not (has_first (codes "@end") l)

record Stands (before : List (List ℕ)) (l : List ℕ) : Type 0 where
  none : list_all q before ≡ true
  here : (l ≡ end_line) ⊎ (q l ≡ true)

stands : (xs before rest : List (List ℕ)) (l : List ℕ) → list_all q xs ≡ true → xs ++ (end_line ∷ []) ≡ before ++ (l ∷ rest) → Stands before l
stands [] [] rest l all e = record { none = refl; here = inl (sym (cons_parts end_line l [] rest e).0) }
stands [] (y ∷ []) rest l all e = cc
stands [] (y ∷ z ∷ before) rest l all e = cc
stands (x ∷ xs) [] rest l all e =
    let same = (cons_parts x l (xs ++ (end_line ∷ [])) rest e).0 in
    record { none = refl; here = inr (subst (λ z. q z ≡ true) same (and_parts (q x) (list_all q xs) all).0) }
stands (x ∷ xs) (y ∷ before) rest l all e =
    let same = cons_parts x y (xs ++ (end_line ∷ [])) (before ++ (l ∷ rest)) e in
    let both = and_parts (q x) (list_all q xs) all in
    let more = stands xs before rest l both.1 same.1 in
    record { none = rw (subst (λ z. q z ≡ true) same.0 both.0, more.none) refl; here = more.here }

not_end : (l : List ℕ) → q l ≡ true → is_end l ≡ false
not_end l h = false_from_ne_true (is_end l) (λ e. let same = same_bytes_true l end_line e in let no : q end_line ≡ true = subst (λ x. q x ≡ true) same h in cc)

none_end : (ls : List (List ℕ)) → list_all q ls ≡ true → list_any is_end ls ≡ false
none_end [] h = refl
none_end (l ∷ ls) h = let both = and_parts (q l) (list_all q ls) h in rw (not_end l both.0) (none_end ls both.1)

pub ends_last-is : (xs : List (List ℕ)) (l : List ℕ) → ends_with_end (xs ++ (l ∷ [])) ≡ is_end l
ends_last-is [] l = refl
ends_last-is (x ∷ []) l = refl
ends_last-is (x ∷ y ∷ xs) l = ends_last-is (y ∷ xs) l

-- a line of no end class doesn't begin with `@end`
not_ended-q : (l : List ℕ) → not (is_of_class Ended l) ≡ true → q l ≡ true
not_ended-q l h =
    let box = same_bytes (first_field l) (codes "@box") in
    let late = same_bytes (first_field l) (codes "@late") in
    let none = not-true (is_of_class Ended l) h in
    let last = (or_parts (box || late) (same_bytes (first_field l) (codes "@end")) (grind (arith, none))).1 in
    rw last refl

all_q : (ls : List (List ℕ)) → list_all (λ l. not (is_of_class Ended l)) ls ≡ true → list_all q ls ≡ true
all_q [] h = refl
all_q (l ∷ ls) h = let both = and_parts (not (is_of_class Ended l)) (list_all (λ x. not (is_of_class Ended x)) ls) h in rw (not_ended-q l both.0, all_q ls both.1) refl

-- ---- the law

first_is : (word : List ℕ) (l : List ℕ) → has_first word l ≡ true → first_field l ≡ word
first_is word l h = same_bytes_true (first_field l) word h

-- a line begins with one word alone
other_word : (a b l : List ℕ) → has_first a l ≡ true → same_bytes a b ≡ false → has_first b l ≡ false
other_word a b l h e = rw (first_is a l h) e

module _ (d : Expected) (text : List ℕ) (classes : DropsHaveClass d.drops) (s : IsSoundDue d) (h : IsWhole d text) where
  abbrev drops : ℕ
  drops = d.drops

  abbrev ls : List (List ℕ)
  ls = whole_lines text

  -- all lines but the last
  abbrev others : List (List ℕ)
  others = h.ends_last.0 ++ s.ended.others

  others_are : ls ≡ others ++ (end_line ∷ [])
  others_are = h.ends_last.1 ∙ ap (λ x. h.ends_last.0 ++ x) s.ended.is ∙ sym (append_assoc h.ends_last.0 s.ended.others (end_line ∷ []))

  others_none : list_all q others ≡ true
  others_none = list_all-append q h.ends_last.0 s.ended.others ∙ ap (λ t. t && list_all q s.ended.others) (all_q h.ends_last.0 h.ends_last.2) ∙ s.ended.none

  -- the lines of an output
  lines_own : (o : List ℕ × List (List ℕ)) → Split d.shown o → of_class (Shown o.0) text ≡ o.1
  lines_own o at =
      let here : list_any (λ x. same_bytes x.0 o.0) d.shown ≡ true = rw at.is (any_at (λ x. same_bytes x.0 o.0) at.front o at.back (same_bytes_itself o.0)) in
      let one : filter (λ x. same_bytes x.0 o.0) d.shown ≡ o ∷ [] = ap (filter (λ x. same_bytes x.0 o.0)) at.is ∙ picked_one at.front o at.back (subst (λ os. are_distinct (names os) ≡ true) at.is s.distinct) in
      h.shown o.0 here ∙ ap (flat_map (λ x. x.1)) one ∙ append-nil o.1

  module _ (before : List (List ℕ)) (l : List ℕ) (rest : List (List ℕ)) (e : ls ≡ before ++ (l ∷ rest)) where
    where_it_stands : Stands before l
    where_it_stands = stands others before rest l others_none (sym others_are ∙ e)

    class_split : (c : Class) → is_of_class c l ≡ true → of_class c text ≡ filter (is_of_class c) before ++ (l ∷ filter (is_of_class c) rest)
    class_split c of = ap (filter (is_of_class c)) e ∙ filter_at (is_of_class c) before l rest of

    own_line : (o : List ℕ × List (List ℕ)) → Found (λ x. has_first x.0 l) d.shown o → is_next before o l ≡ true
    own_line o f =
        let all = sym (lines_own o f.at) ∙ class_split (Shown o.0) f.passes in
        let next : slice_get o.1 (count_of before o.0) ≡ Some l = ap (λ x. slice_get x (count_of before o.0)) all ∙ get_next (filter (is_of_class (Shown o.0)) before) l (filter (is_of_class (Shown o.0)) rest) in
        ap (λ n. is_line_at n l) next ∙ same_bytes_itself l

    line_classed : is_expected d l ≡ true
    line_classed = all_at (is_expected d) before l rest (subst (λ x. list_all (is_expected d) x ≡ true) e h.classed)

    -- a line of a drop goes on
    drop_rises : (w : ℕ) → w < drops → is_of_class (Dropped w) l ≡ true → batch_rises drops before (drop_told_in drops l) ≡ true
    drop_rises w low of =
        let p = is_of_class (Dropped w) in
        let r = s.dropped w low (filter p before) l (filter p rest) (sym (h.dropped w low) ∙ class_split (Dropped w) of) in
        ap (batch_rises drops before) r.1 ∙ ap (λ bs. nat_le (max_by (λ b. b + 1) bs) r.0) (sym (recorded_of_class drops classes w before)) ∙ r.2

    module _ (none : list_any (λ o. has_first o.0 l) d.shown ≡ false) where
      abbrev dropped_one : Bool
      dropped_one = list_any (λ w. is_of_class (Dropped w) l) (numbers_to drops)

      rest_classed : (dropped_one || (is_of_class Planned l || is_of_class Ended l)) ≡ true
      rest_classed = let c = line_classed in grind (arith, none, c)

      drop_word : (w : ℕ) → is_of_class (Dropped w) l ≡ true → has_first (codes "@drop") l ≡ true
      drop_word w of = (and_parts (has_first (codes "@drop") l) (same_bytes (second_field l) (decimal w)) of).0

      end_word : has_first (codes "@end") l ≡ true → is_end l ≡ true
      end_word first = elim where_it_stands.here [
        | inl same ↦ rw same (same_bytes_itself end_line)
        | inr other ↦ let no_first = not-true (has_first (codes "@end") l) other in absurd (cc)
      ]

      words_of : (plan drop box late end : Bool) → (plan ≡ true) ⊎ (drop ≡ true) ⊎ (box ≡ true) ⊎ (late ≡ true) ⊎ (end ≡ true) → (plan || drop || box || late || end) ≡ true
      words_of plan drop box late end (inl x) = rw x (grind arith)
      words_of plan drop box late end (inr (inl x)) = rw x (grind arith)
      words_of plan drop box late end (inr (inr (inl x))) = rw x (grind arith)
      words_of plan drop box late end (inr (inr (inr (inl x)))) = rw x (grind arith)
      words_of plan drop box late end (inr (inr (inr (inr x)))) = rw x (grind arith)

      some_word : (has_first (codes "@plan") l ≡ true) ⊎ (has_first (codes "@drop") l ≡ true) ⊎ (has_first (codes "@box") l ≡ true) ⊎ (has_first (codes "@late") l ≡ true) ⊎ (is_end l ≡ true)
          → has_word l ≡ true
      some_word x = words_of (has_first (codes "@plan") l) (has_first (codes "@drop") l) (has_first (codes "@box") l) (has_first (codes "@late") l) (is_end l) x

      ended_word : is_of_class Ended l ≡ true → has_word l ≡ true
      ended_word of =
          let box = has_first (codes "@box") l in
          let late = has_first (codes "@late") l in
          elim (or_cases (box || late) (has_first (codes "@end") l) (grind (arith, of))) [
            | inr first ↦ some_word (inr (inr (inr (inr (end_word first)))))
            | inl bl ↦ elim (or_cases box late bl) [
              | inl b ↦ some_word (inr (inr (inl b)))
              | inr t ↦ some_word (inr (inr (inr (inl t))))
            ]
          ]

      has_some_word : has_word l ≡ true
      has_some_word = elim (or_cases dropped_one (is_of_class Planned l || is_of_class Ended l) rest_classed) [
        | inl some ↦ let w = any_number (λ k. is_of_class (Dropped k) l) 0 drops some in some_word (inr (inl (drop_word w.item w.passes)))
        | inr more ↦ elim (or_cases (is_of_class Planned l) (is_of_class Ended l) more) [
          | inl plan ↦ some_word (inl plan)
          | inr of ↦ ended_word of
        ]
      ]

      -- a line with the word of a drop is of the class of one
      drop_line_rises : has_first (codes "@drop") l ≡ true → batch_rises drops before (drop_told_in drops l) ≡ true
      drop_line_rises first =
          let plan = other_word (codes "@drop") (codes "@plan") l first refl in
          let box = other_word (codes "@drop") (codes "@box") l first refl in
          let late = other_word (codes "@drop") (codes "@late") l first refl in
          let last = other_word (codes "@drop") (codes "@end") l first refl in
          let ended : is_of_class Ended l ≡ false = rw (box, late, last) refl in
          let c = rest_classed in
          let some : dropped_one ≡ true = elim (or_cases dropped_one (is_of_class Planned l || is_of_class Ended l) c) [
            | inl x ↦ x
            | inr more ↦ elim (or_cases (is_of_class Planned l) (is_of_class Ended l) more) [ inl x ↦ absurd (cc) | inr x ↦ absurd (cc) ]
          ] in
          let w = any_number (λ k. is_of_class (Dropped k) l) 0 drops some in
          let low = w.low in
          drop_rises w.item (omega (arith, low)) w.passes

      no_word_fault : word_fault drops before l ≡ None
      no_word_fault = elim (cases_Bool (has_first (codes "@drop") l)) [
        | inl holds ↦ rw (has_some_word, holds, drop_line_rises holds) refl
        | inr fails ↦ rw (has_some_word, fails) refl
      ]

    no_class_fault : (o : Option (List ℕ × List (List ℕ))) → output_told_in d.shown l ≡ o → class_fault drops before l o ≡ None
    no_class_fault None at = no_word_fault (any_none (λ o. has_first o.0 l) d.shown at)
    no_class_fault (Some o) at = rw (own_line o (found (λ x. has_first x.0 l) d.shown o at)) refl

    pub no_fault : fault_of d.shown drops before l ≡ None
    no_fault = rw (none_end before where_it_stands.none) (no_class_fault (output_told_in d.shown l) refl)

  enough : (front back : Lines) → d.shown ≡ front ++ back → list_any (λ o. nat_lt (count_of ls o.0) (length o.1)) back ≡ false
  enough front [] e = refl
  enough front (o ∷ back) e =
      let own = ap (λ (x : List (List ℕ)). length x) (lines_own o (record { front = front; back = back; is = e })) in
      let here : nat_lt (count_of ls o.0) (length o.1) ≡ false = grind (arith, nat_tests, own) in
      rw here (enough (front ++ (o ∷ [])) back (e ∙ sym (append_assoc front (o ∷ []) back)))

  not_short : is_short d.shown ls (unfinished text) ≡ false
  not_short =
      let last : ends_with_end ls ≡ true = ap ends_with_end others_are ∙ ends_last-is others end_line ∙ same_bytes_itself end_line in
      rw (h.finished, last, enough [] d.shown refl) refl

  walk : (before rest : List (List ℕ)) → ls ≡ before ++ rest → verdict_from d.shown drops (unfinished text) before rest ≡ verdict.Yes
  walk before [] e = let same : before ≡ ls = sym (append-nil before) ∙ sym e in rw (same, not_short) refl
  walk before (l ∷ rest) e = rw (no_fault before l rest e) (walk (before ++ (l ∷ [])) rest (e ∙ sym (append_assoc before (l ∷ []) rest)))

  -- a whole text has no fault, and nothing is missing
  pub whole_is_yes : verdict_on d.shown drops text ≡ verdict.Yes
  whole_is_yes = walk [] ls refl
