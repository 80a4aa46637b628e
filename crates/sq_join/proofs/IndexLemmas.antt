-- What an index tells of a list that grows at its end and goes at its front, and that each pair that passes is found by it.
use Rattle.std.proofs.Common.{◌≡◌, ℕ, zero, suc, ◌+◌, ◌-◌, ◌^◌, ◌<◌, ◌≤◌, ◌==◌, Bool, true, false, cond, List, [], ◌∷◌, ◌++◌, length, drop, refl, ap, sym, subst, ◌∙◌, Option, None, Some, append_assoc, arith, tests}
use Rattle.std.specs.Prelude.{if◌then◌else◌, slice_get, Result, Ok, Err, OnOk}
use Rattle.std.specs.declared.collections.VecDeque.{VecDeque}
use Rattle.std.specs.declared.alloc.Global.{Global}
use Rattle.std.proofs.lemmas.Bool.{false_from_ne_true}
use Rattle.std.proofs.lemmas.List.{length_push}
use Rattle.std.specs.Option.{option_to_list}
use Rattle.std.specs.List.{AllByRecursion, filter}
use Rattle.sq_value.specs.declared.Tuple.{Tuple}
use Rattle.sq_expr.specs.Trees.{Expr}
use Rattle.sq_expr.specs.Expressions.{holds_of, pair_of}
use Rattle.sq_lists.specs.Sides.{against, pair_at, pairs_with}
use Rattle.sq_join.specs.declared.index.Index.{Index}
use Rattle.sq_join.specs.declared.side_indexes.SideIndexes.{SideIndexes}
use Rattle.sq_join.specs.Codes.{tuple_code, row_at_code}
use Rattle.sq_join.specs.Indexes.{positions_in, belongs, belongs_at, positions, positions_in_row, row_count, index_against, index_of, IsIndex, IsOfSameKeys, AreIndexes, MayIndex, HasPassing}
use Rattle.sq_words.proofs.Alls.{all_filter, all_push, all_weaker}
use Rattle.sq_item.specs.Things.{Thing}
use Rattle.sq_oper.specs.Streams.{things, at_zero}
use Rattle.sq_oper.proofs.StreamLemmas.{things-append, at_zero-append}

-- the tuples at these positions; the first stands at this one
abbrev pub standing_at : ℕ → List Tuple → List ℕ → List Tuple
standing_at first xs [] = []
standing_at first xs (at ∷ more) = option_to_list (slice_get xs (at - first)) ++ standing_at first xs more

positions-push : (test : Tuple → Bool) (first : ℕ) (xs : List Tuple) (x : Tuple)
    → positions test first (xs ++ x ∷ []) ≡ positions test first xs ++ (if test x then (first + length xs) ∷ [] else [])
positions-push test first [] x =
    let here : first + 0 ≡ first = omega arith in
    rw here refl
positions-push test first (y ∷ xs) x =
    let next : suc first + length xs ≡ first + suc (length xs) = omega arith in
    let more = rw next at (positions-push test (suc first) xs x) in
    elim (test y) as (λ b. cond b (first ∷ positions test (suc first) (xs ++ x ∷ [])) (positions test (suc first) (xs ++ x ∷ []))
    ≡ cond b (first ∷ positions test (suc first) xs) (positions test (suc first) xs) ++ (if test x then (first + suc (length xs)) ∷ [] else [])) [ true ↦ ap (λ l. first ∷ l) more | false ↦ more ]

bare-push : (rows : List (VecDeque ℕ Global)) (more : VecDeque ℕ Global) → more.items ≡ [] → ((row : ℕ) → positions_in (slice_get rows row) ≡ [])
    → (row : ℕ) → positions_in (slice_get (rows ++ more ∷ []) row) ≡ []
bare-push [] more none bare zero = none
bare-push [] more none bare (suc row) = refl
bare-push (r ∷ rows) more none bare zero = bare 0
bare-push (r ∷ rows) more none bare (suc row) = bare-push rows more none (λ k. bare (suc k)) row

-- one more row in which nothing stands
pub rows-push : (rows new : List (VecDeque ℕ Global)) (more : VecDeque ℕ Global) → new ≡ rows ++ more ∷ [] → more.items ≡ [] → ((row : ℕ) → positions_in (slice_get rows row) ≡ [])
    → (row : ℕ) → positions_in (slice_get new row) ≡ []
rows-push rows new more is none bare row = rw is (bare-push rows more none bare row)

-- a tuple was put behind the others
pub IsIndex-push : (held : List Tuple) (x : Tuple) (before after : Index) (at : ℕ) → at ≡ before.first + length held → at + 1 < 2 ^ 64 → IsIndex held before
    → IsOfSameKeys before after → after.first ≡ before.first → row_count after ≡ row_count before → length x.fields ≡ before.width
    → ((row : ℕ) → row < row_count before → positions_in_row after row ≡ positions_in_row before row ++ (if belongs_at before.places.items before.parts.items (row_count before) row x then at ∷ [] else []))
    → IsIndex (held ++ x ∷ []) after
IsIndex-push held x before after at is fits index same first count wide put =
    let n : length (held ++ x ∷ []) ≡ length held + 1 = length_push held x in record {
      rows = λ row low.
          let low' : row < row_count before = omega (arith, count, low) in
          rw (same.0, same.1.0, first, count)
          (put row low'
          ∙ ap (λ l. l ++ (if belongs_at before.places.items before.parts.items (row_count before) row x then at ∷ [] else [])) (index.rows row low')
          ∙ rw is (sym (positions-push (belongs_at before.places.items before.parts.items (row_count before) row) before.first held x)));
      even = λ some. rw same.1.1 (all_push (λ y. length y.fields ≡ before.width) held x (index.even (omega (arith, count, some))) wide);
      fits = omega (arith, n, is, fits, first);
    }

-- there are no rows
pub IsIndex-bare : (held : List Tuple) (index : Index) → row_count index ≡ 0 → index.first + length held < 2 ^ 64 → IsIndex held index
IsIndex-bare held index none fits = record {
  rows = λ row low. absurd (omega (arith, none, low));
  even = λ some. absurd (omega (arith, none, some));
  fits = fits;
}

-- ---- what passes is found

belongs-found : (places : List ℕ) (parts : List Expr) (rows row : ℕ) (y : Tuple) (code : ℕ) → tuple_code places parts y ≡ Some code → row ≡ row_at_code rows code → belongs_at places parts rows row y ≡ true
belongs-found places parts rows row y code at is = ap (belongs rows row) at ∙ rw is (grind (arith, tests))

module _ (on : Expr) (left right : List Tuple) (indexes : SideIndexes) (are : AreIndexes on left right indexes) (x : Tuple) where
  by-side : (b : Bool) (code row : ℕ) → length x.fields ≡ (if b then indexes.left else indexes.right).width → tuple_code (if b then indexes.left else indexes.right).places.items (if b then indexes.left else indexes.right).parts.items x ≡ Some code
      → row ≡ row_at_code (row_count (if b then indexes.right else indexes.left)) code → row < row_count (if b then indexes.right else indexes.left)
      → AllByRecursion (λ y. holds_of on (if b then pair_of x y else pair_of y x) ≡ true
      → belongs_at (if b then indexes.right else indexes.left).places.items (if b then indexes.right else indexes.left).parts.items (row_count (if b then indexes.right else indexes.left)) row y ≡ true) (if b then right else left)
  by-side true code row wide at is low =
      all_weaker (λ y. length y.fields ≡ indexes.right.width) (λ y. holds_of on (pair_of x y) ≡ true → belongs_at indexes.right.places.items indexes.right.parts.items (row_count indexes.right) row y ≡ true)
      (λ y _ holds. belongs-found indexes.right.places.items indexes.right.parts.items (row_count indexes.right) row y code (sym (are.equates x y wide holds).0 ∙ at) is)
      right (are.both.1.even (omega (arith, low)))
  by-side false code row wide at is low =
      all_weaker (λ y. length y.fields ≡ indexes.left.width) (λ y. holds_of on (pair_of y x) ≡ true → belongs_at indexes.left.places.items indexes.left.parts.items (row_count indexes.left) row y ≡ true)
      (λ y even holds. belongs-found indexes.left.places.items indexes.left.parts.items (row_count indexes.left) row y code ((are.equates y x even holds).0 ∙ at) is)
      left (are.both.0.even (omega (arith, low)))

  alone : (b : Bool) → length x.fields ≡ (if b then indexes.left else indexes.right).width → tuple_code (if b then indexes.left else indexes.right).places.items (if b then indexes.left else indexes.right).parts.items x ≡ None
      → 0 < row_count (if b then indexes.right else indexes.left)
      → AllByRecursion (λ y. holds_of on (if b then pair_of x y else pair_of y x) ≡ false) (if b then right else left)
  alone true wide at low =
      all_weaker (λ y. length y.fields ≡ indexes.right.width) (λ y. holds_of on (pair_of x y) ≡ false)
      (λ y _. false_from_ne_true (holds_of on (pair_of x y)) (λ holds. (are.equates x y wide holds).1 at))
      right (are.both.1.even low)
  alone false wide at low =
      all_weaker (λ y. length y.fields ≡ indexes.left.width) (λ y. holds_of on (pair_of y x) ≡ false)
      (λ y even. false_from_ne_true (holds_of on (pair_of y x)) (λ holds. (are.equates y x even holds).1 ((are.equates y x even holds).0 ∙ at)))
      left (are.both.0.even low)

-- the row of the key of a tuple that comes
pub row-found : (on : Expr) (left right : List Tuple) (indexes : SideIndexes) (side : ℕ) (x : Tuple) (code row : ℕ) (own other : Index)
    → own ≡ index_of side indexes → other ≡ index_against side indexes → AreIndexes on left right indexes
    → length x.fields ≡ own.width → tuple_code own.places.items own.parts.items x ≡ Some code → (row < row_count other) × (row ≡ row_at_code (row_count other) code)
    → HasPassing on side x (against side left right) (index_against side indexes) row
row-found on left right indexes side x code row own other is-own is-other are wide at h =
    (rw is-other at h.0, by-side on left right indexes are x (side == 0) code row (rw is-own at wide) (rw is-own at at) (rw is-other at h.1) (rw is-other at h.0))

-- a tuple whose key has Null passes with none
pub none-found : (on : Expr) (left right : List Tuple) (indexes : SideIndexes) (side : ℕ) (x : Tuple) (own other : Index)
    → own ≡ index_of side indexes → other ≡ index_against side indexes → AreIndexes on left right indexes
    → length x.fields ≡ own.width → tuple_code own.places.items own.parts.items x ≡ None → 0 < row_count other
    → AllByRecursion (λ y. holds_of on (pair_at side x y) ≡ false) (against side left right)
none-found on left right indexes side x own other is-own is-other are wide at low =
    alone on left right indexes are x (side == 0) (rw is-own at wide) (rw is-own at at) (rw is-other at low)

pub pairs-none : (on : Expr) (side : ℕ) (x : Tuple) (ys : List Tuple) → AllByRecursion (λ y. holds_of on (pair_at side x y) ≡ false) ys → pairs_with on side x ys ≡ []
pairs-none on side x [] all = refl
pairs-none on side x (y ∷ ys) all = rw all.0 (pairs-none on side x ys all.1)

-- ---- the tuples of a row

pub positions-within : (test : Tuple → Bool) (first : ℕ) (xs : List Tuple) → AllByRecursion (λ p. (first ≤ p) × (p < first + length xs)) (positions test first xs)
positions-within test first [] = tt
positions-within test first (y ∷ xs) =
    let n : suc first + length xs ≡ first + suc (length xs) = omega arith in
    let more = all_weaker (λ p. (suc first ≤ p) × (p < suc first + length xs)) (λ p. (first ≤ p) × (p < first + suc (length xs)))
    (λ p h. (omega (arith, h.0), omega (arith, n, h.1))) (positions test (suc first) xs) (positions-within test (suc first) xs) in
    elim (test y) as (λ b. AllByRecursion (λ p. (first ≤ p) × (p < first + suc (length xs))) (cond b (first ∷ positions test (suc first) xs) (positions test (suc first) xs))) [
      | true ↦ ((omega arith, omega arith), more)
      | false ↦ more
    ]

tuple-between : (before xs : List Tuple) (y : Tuple) → slice_get (before ++ y ∷ xs) (length before) ≡ Some y
tuple-between [] xs y = refl
tuple-between (z ∷ before) xs y = tuple-between before xs y

behind : (test : Tuple → Bool) (first : ℕ) (before xs : List Tuple) → standing_at first (before ++ xs) (positions test (first + length before) xs) ≡ filter test xs
behind test first before [] = refl
behind test first before (y ∷ xs) =
    let here : first + length before - first ≡ length before = omega arith in
    let got : slice_get (before ++ y ∷ xs) (first + length before - first) ≡ Some y = rw here (tuple-between before xs y) in
    let n : length (before ++ y ∷ []) ≡ length before + 1 = length_push before y in
    let next : first + length (before ++ y ∷ []) ≡ suc (first + length before) = omega (arith, n) in
    let all : (before ++ y ∷ []) ++ xs ≡ before ++ y ∷ xs = append_assoc before (y ∷ []) xs in
    let more : standing_at first (before ++ y ∷ xs) (positions test (suc (first + length before)) xs) ≡ filter test xs = rw (all, next) at (behind test first (before ++ y ∷ []) xs) in
    elim (test y) as (λ b. standing_at first (before ++ y ∷ xs) (cond b ((first + length before) ∷ positions test (suc (first + length before)) xs) (positions test (suc (first + length before)) xs))
    ≡ cond b (y ∷ filter test xs) (filter test xs)) [
      | true ↦ ap (λ o. option_to_list o ++ standing_at first (before ++ y ∷ xs) (positions test (suc (first + length before)) xs)) got ∙ ap (λ l. y ∷ l) more
      | false ↦ more
    ]

-- the tuples at the positions of those for which a test is true
pub tuples-at-positions : (test : Tuple → Bool) (first : ℕ) (xs : List Tuple) → standing_at first xs (positions test first xs) ≡ filter test xs
tuples-at-positions test first xs =
    let here : first + 0 ≡ first = omega arith in
    rw here at (behind test first [] xs)

with-one : (on : Expr) (side : ℕ) (x y : Tuple) (ys : List Tuple) (b c : Bool) (some rest : List Tuple) → pairs_with on side x some ≡ pairs_with on side x rest
    → holds_of on (pair_at side x y) ≡ c → (c ≡ true → b ≡ true) → pairs_with on side x (cond b (y ∷ some) some) ≡ pairs_with on side x (y ∷ rest)
with-one on side x y ys true true some rest ih e h = rw e (ap (λ l. pair_at side x y ∷ l) ih)
with-one on side x y ys true false some rest ih e h = rw e ih
with-one on side x y ys false true some rest ih e h = absurd (cc (h refl))
with-one on side x y ys false false some rest ih e h = rw e ih

-- the pairs with those that pass are the pairs with all
pub pairs-passing : (on : Expr) (side : ℕ) (x : Tuple) (test : Tuple → Bool) (ys : List Tuple) → AllByRecursion (λ y. holds_of on (pair_at side x y) ≡ true → test y ≡ true) ys
    → pairs_with on side x (filter test ys) ≡ pairs_with on side x ys
pairs-passing on side x test [] all = refl
pairs-passing on side x test (y ∷ ys) all =
    with-one on side x y ys (test y) (holds_of on (pair_at side x y)) (filter test ys) ys (pairs-passing on side x test ys all.1) refl all.0

-- what stands in the row of a tuple that comes
pub row-pairs : (on : Expr) (side : ℕ) (x : Tuple) (others : List Tuple) (index : Index) (row : ℕ) (ps : List ℕ) → IsIndex others index → HasPassing on side x others index row
    → positions_in_row index row ≡ ps → pairs_with on side x (standing_at index.first others ps) ≡ pairs_with on side x others
row-pairs on side x others index row ps is has at =
    let test : Tuple → Bool = belongs_at index.places.items index.parts.items (row_count index) row in
    let listed : ps ≡ positions test index.first others = sym at ∙ is.rows row has.0 in
    rw listed (ap (pairs_with on side x) (tuples-at-positions test index.first others) ∙ pairs-passing on side x test others has.1)

pub row-all : (P : Tuple → Type 0) (others : List Tuple) (index : Index) (row : ℕ) (ps : List ℕ) → IsIndex others index → row < row_count index
    → positions_in_row index row ≡ ps → AllByRecursion P others → AllByRecursion P (standing_at index.first others ps)
row-all P others index row ps is low at all =
    let test : Tuple → Bool = belongs_at index.places.items index.parts.items (row_count index) row in
    let listed : standing_at index.first others ps ≡ filter test others =
    ap (standing_at index.first others) (sym at ∙ is.rows row low) ∙ tuples-at-positions test index.first others in
    subst (AllByRecursion P) (sym listed) (all_filter P test others all)

pub row-within : (others : List Tuple) (index : Index) (row : ℕ) (ps : List ℕ) → IsIndex others index → row < row_count index → positions_in_row index row ≡ ps
    → AllByRecursion (λ p. (index.first ≤ p) × (p < index.first + length others)) ps
row-within others index row ps is low at =
    subst (AllByRecursion (λ p. (index.first ≤ p) × (p < index.first + length others))) (sym (is.rows row low) ∙ at)
    (positions-within (belongs_at index.places.items index.parts.items (row_count index) row) index.first others)

pub tuples-step : (first : ℕ) (others : List Tuple) (ps : List ℕ) (i p : ℕ) (y : Tuple) → drop i ps ≡ p ∷ drop (i + 1) ps → slice_get others (p - first) ≡ Some y
    → standing_at first others (drop i ps) ≡ y ∷ standing_at first others (drop (i + 1) ps)
tuples-step first others ps i p y step got = ap (standing_at first others) step ∙ ap (λ o. option_to_list o ++ standing_at first others (drop (i + 1) ps)) got

pairs-split : (on : Expr) (side : ℕ) (x y : Tuple) (ys : List Tuple) → pairs_with on side x (y ∷ ys) ≡ pairs_with on side x (y ∷ []) ++ pairs_with on side x ys
pairs-split on side x y ys =
    elim (holds_of on (pair_at side x y)) as (λ b. cond b (pair_at side x y ∷ pairs_with on side x ys) (pairs_with on side x ys)
    ≡ cond b (pair_at side x y ∷ []) [] ++ pairs_with on side x ys) [ true ↦ refl | false ↦ refl ]

-- a pair more was given, where what is left goes on with the next tuple
pub given-step : (on : Expr) (side : ℕ) (x y : Tuple) (rest left : List Tuple) (q : ℕ) (before after all : List Thing) → left ≡ y ∷ rest
    → after ≡ before ++ at_zero q (things (pairs_with on side x (y ∷ []))) → before ++ at_zero q (things (pairs_with on side x left)) ≡ all
    → after ++ at_zero q (things (pairs_with on side x rest)) ≡ all
given-step on side x y rest left q before after all is gave so-far =
    let one = pairs_with on side x (y ∷ []) in
    let more = pairs_with on side x rest in
    let split : at_zero q (things (pairs_with on side x left)) ≡ at_zero q (things one) ++ at_zero q (things more) =
    ap (λ l. at_zero q (things (pairs_with on side x l))) is ∙ ap (λ l. at_zero q (things l)) (pairs-split on side x y rest)
    ∙ ap (at_zero q) (things-append one more) ∙ at_zero-append q (things one) (things more) in
    ap (λ l. l ++ at_zero q (things more)) gave ∙ append_assoc before (at_zero q (things one)) (at_zero q (things more)) ∙ ap (λ l. before ++ l) (sym split) ∙ so-far

-- the same, where pairs are put behind others
pub pushed-step : (on : Expr) (side : ℕ) (x y : Tuple) (rest left before after all : List Tuple) → left ≡ y ∷ rest → after ≡ before ++ pairs_with on side x (y ∷ [])
    → before ++ pairs_with on side x left ≡ all → after ++ pairs_with on side x rest ≡ all
pushed-step on side x y rest left before after all is gave so-far =
    let one = pairs_with on side x (y ∷ []) in
    let more = pairs_with on side x rest in
    let split : pairs_with on side x left ≡ one ++ more = ap (pairs_with on side x) is ∙ pairs-split on side x y rest in
    ap (λ l. l ++ more) gave ∙ append_assoc before one more ∙ ap (λ l. before ++ l) (sym split) ∙ so-far

-- what is held where a call went well
pub OnOk-held : {T E : Type 0} (r : Result T E) (on : Expr) (indexes : Option SideIndexes) (left left' right right' : List Tuple) → OnOk r (left' ≡ left) → OnOk r (right' ≡ right)
    → MayIndex on left right indexes → OnOk r (MayIndex on left' right' indexes)
OnOk-held (Ok x) on indexes left left' right right' is-left is-right may = rw (is-left, is-right) may
OnOk-held (Err e) on indexes left left' right right' is-left is-right may = tt
