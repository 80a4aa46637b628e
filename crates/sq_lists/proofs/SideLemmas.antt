-- Of the earlier entries of a Join only those of the other side matter that are near.
use Rattle.std.proofs.Common.{◌≡◌, ℕ, ◌+◌, ◌-◌, ◌≤◌, Bool, true, false, cond, not, ◌&&◌, ◌⊎◌, inl, inr, List, [], ◌∷◌, ◌++◌, map, refl, ap, ap₂, sym, ◌∙◌, append-nil, zero-le, arith, tests}
use Rattle.std.specs.Prelude.{if◌then◌else◌, nat_lt, nat_le, ◌==◌}
use Rattle.std.specs.Int.{abs_diff}
use Rattle.std.specs.List.{AllByRecursion, filter}
use Rattle.std.proofs.Math.Bool.{and-false}
use Rattle.std.proofs.lemmas.List.{map-append}
use Rattle.std.proofs.lemmas.List.Elements.{filter-append}
use Rattle.std.proofs.lemmas.List.MinMax.{IsStrictWeakOrder-by_number}
use Rattle.sq_value.specs.declared.Tuple.{Tuple}
use Rattle.sq_words.specs.Lists.{Rising, ports_of}
use Rattle.sq_words.proofs.Sorting.{sort_rising, all_sort}
use Rattle.sq_expr.specs.Trees.{Expr}
use Rattle.sq_expr.specs.Expressions.{holds_of}
use Rattle.sq_lists.specs.Merge.{PortTuple, tuple_earlier, merge_tuples}
use Rattle.sq_lists.specs.Pairs.{meets, paired, pairs_of, pairs_from}
use Rattle.sq_lists.specs.Sides.{on_side, held_on_sides, recent, pair_at, pairs_with, against, left_with, right_with, AllNear}
use Rattle.sq_lists.specs.WindowParts.{TimesNotFalling}
use Rattle.sq_lists.proofs.WindowLemmas.{lower}
use Rattle.sq_words.proofs.Alls.{all_append, all_weaker, all_push}
use Rattle.sq_words.proofs.Numbers.{eq_itself}

-- each comes at the left or at the right side
abbrev pub TwoSides : List PortTuple → Type 0
TwoSides es = AllByRecursion (λ e. (e.0 ≡ 0) ⊎ (e.0 ≡ 1)) es

-- what is more than the size before a time is so before each later time
far : (size t u x : ℕ) → nat_lt size (t - x) ≡ true → t ≤ u → nat_le (abs_diff u x) size ≡ false
far size t u x h le = grind (arith, tests)

near : (size t x : ℕ) → x ≤ t → t ≤ x + size → nat_le (abs_diff t x) size ≡ true
near size t x early le = grind (arith, tests)

module _ (size : ℕ) (on : Expr) where
  pairs-append : (xs ys : List PortTuple) (now : PortTuple) → pairs_of size on (xs ++ ys) now ≡ pairs_of size on xs now ++ pairs_of size on ys now
  pairs-append xs ys now =
      ap (λ l. filter (holds_of on) (map (paired now) l)) (filter-append (meets size now) xs ys)
      ∙ ap (filter (holds_of on)) (map-append (paired now) (filter (meets size now) xs) (filter (meets size now) ys))
      ∙ filter-append (holds_of on) (map (paired now) (filter (meets size now) xs)) (map (paired now) (filter (meets size now) ys))

  -- those of an entry's own side
  own-side : (side : ℕ) (x : Tuple) (ys : List Tuple) → pairs_of size on (on_side side ys) (side, x) ≡ []
  own-side side x [] = refl
  own-side side x (y ∷ ys) =
      ap (λ b. filter (holds_of on) (map (paired (side, x)) (cond (not b && nat_le (abs_diff x.time y.time) size) ((side, y) ∷ filter (meets size (side, x)) (on_side side ys)) (filter (meets size (side, x)) (on_side side ys))))) (eq_itself side)
      ∙ own-side side x ys

  -- those that are let go of
  recent-by : (side : ℕ) (now : PortTuple) (t : ℕ) (y : Tuple) (ys : List Tuple) → t ≤ (now.1).time
      → pairs_of size on (on_side side (recent size t ys)) now ≡ pairs_of size on (on_side side ys) now
      → (b : Bool) → nat_lt size (t - y.time) ≡ b
      → pairs_of size on (on_side side (if b then recent size t ys else y ∷ ys)) now ≡ pairs_of size on (on_side side (y ∷ ys)) now
  recent-by side now t y ys le ih true e =
      let past : meets size now (side, y) ≡ false = ap (λ b. not (now.0 == side) && b) (far size t (now.1).time y.time e le) ∙ and-false (not (now.0 == side)) in
      ih ∙ ap (λ b. filter (holds_of on) (map (paired now) (cond b ((side, y) ∷ filter (meets size now) (on_side side ys)) (filter (meets size now) (on_side side ys))))) (sym past)
  recent-by side now t y ys le ih false e = refl

  recent-pairs : (side : ℕ) (now : PortTuple) (t : ℕ) (ys : List Tuple) → t ≤ (now.1).time
      → pairs_of size on (on_side side (recent size t ys)) now ≡ pairs_of size on (on_side side ys) now
  recent-pairs side now t [] le = refl
  recent-pairs side now t (y ∷ ys) le = recent-by side now t y ys le (recent-pairs side now t ys le) (nat_lt size (t - y.time)) refl

  -- those of the other side that are near
  other-side : (side other : ℕ) (x : Tuple) (ys : List Tuple) → (side == other) ≡ false → AllByRecursion (λ y. y.time ≤ x.time) ys → AllNear size x.time ys
      → pairs_of size on (on_side other ys) (side, x) ≡ pairs_with on side x ys
  other-side side other x [] apart early nears = refl
  other-side side other x (y ∷ ys) apart early nears =
      let meet : meets size (side, x) (other, y) ≡ true = ap₂ (λ a b. not a && b) apart (near size x.time y.time early.0 nears.0) in
      ap (λ b. filter (holds_of on) (map (paired (side, x)) (cond b ((other, y) ∷ filter (meets size (side, x)) (on_side other ys)) (filter (meets size (side, x)) (on_side other ys))))) meet
      ∙ ap (λ l. cond (holds_of on (pair_at side x y)) (pair_at side x y ∷ l) l) (other-side side other x ys apart early.1 nears.1)

  -- earlier entries with which each later one has the same pairs
  abbrev Alike : ℕ → List PortTuple → List PortTuple → Type 0
  Alike t xs ys = (now : PortTuple) → (now.0 ≡ 0) ⊎ (now.0 ≡ 1) → t ≤ (now.1).time → pairs_of size on xs now ≡ pairs_of size on ys now

  -- each comes at a time or later
  abbrev Since : ℕ → List PortTuple → Type 0
  Since t es = AllByRecursion (λ e. t ≤ (e.1).time) es

  alike-from : (es : List PortTuple) (t : ℕ) (xs ys : List PortTuple) → Since t es → TwoSides es → Alike t xs ys → pairs_from size on xs es ≡ pairs_from size on ys es
  alike-from [] t xs ys late two alike = refl
  alike-from (e ∷ es) t xs ys late two alike =
      ap₂ (λ a b. a ++ b) (alike e two.0 late.0)
      (alike-from es t (xs ++ e ∷ []) (ys ++ e ∷ []) late.1 two.1 (λ now is later.
      pairs-append xs (e ∷ []) now ∙ ap (λ l. l ++ pairs_of size on (e ∷ []) now) (alike now is later) ∙ sym (pairs-append ys (e ∷ []) now)))

  -- an entry against what is held: only the other side counts
  held-left : (x : Tuple) (left right : List Tuple) → pairs_of size on (held_on_sides left right) (0, x) ≡ pairs_of size on (on_side 1 right) (0, x)
  held-left x left right = pairs-append (on_side 0 left) (on_side 1 right) (0, x) ∙ ap (λ l. l ++ pairs_of size on (on_side 1 right) (0, x)) (own-side 0 x left)

  held-right : (x : Tuple) (left right : List Tuple) → pairs_of size on (held_on_sides left right) (1, x) ≡ pairs_of size on (on_side 0 left) (1, x)
  held-right x left right =
      pairs-append (on_side 0 left) (on_side 1 right) (1, x)
      ∙ ap (λ l. pairs_of size on (on_side 0 left) (1, x) ++ l) (own-side 1 x right)
      ∙ append-nil (pairs_of size on (on_side 0 left) (1, x))

  one-more : (side : ℕ) (xs : List Tuple) (x : Tuple) → on_side side (xs ++ x ∷ []) ≡ on_side side xs ++ (side, x) ∷ []
  one-more side xs x = map-append (λ y. (side, y)) xs (x ∷ [])

  -- what is held once an entry came is as good as all before it and it
  module _ (x : Tuple) (left right : List Tuple) where
    abbrev then-held : ℕ → List PortTuple
    then-held side = held_on_sides (left_with side x (recent size x.time left)) (right_with side x (recent size x.time right))

    then-alike : (side : ℕ) → (side ≡ 0) ⊎ (side ≡ 1) → Alike x.time (held_on_sides left right ++ (side, x) ∷ []) (then-held side)
    then-alike side is now (inl at) le = as-left side is now.0 now.1 at le
      where
        as-left : (side : ℕ) → (side ≡ 0) ⊎ (side ≡ 1) → (p : ℕ) (y : Tuple) → p ≡ 0 → x.time ≤ y.time
            → pairs_of size on (held_on_sides left right ++ (side, x) ∷ []) (p, y) ≡ pairs_of size on (then-held side) (p, y)
        as-left side (inl is) p y at le =
            rw (is, at)
            (pairs-append (held_on_sides left right) ((0, x) ∷ []) (0, y)
            ∙ append-nil (pairs_of size on (held_on_sides left right) (0, y))
            ∙ held-left y left right
            ∙ sym (recent-pairs 1 (0, y) x.time right le)
            ∙ sym (held-left y (recent size x.time left ++ x ∷ []) (recent size x.time right)))
        as-left side (inr is) p y at le =
            rw (is, at)
            (pairs-append (held_on_sides left right) ((1, x) ∷ []) (0, y)
            ∙ ap (λ l. l ++ pairs_of size on ((1, x) ∷ []) (0, y)) (held-left y left right ∙ sym (recent-pairs 1 (0, y) x.time right le))
            ∙ sym (pairs-append (on_side 1 (recent size x.time right)) ((1, x) ∷ []) (0, y))
            ∙ ap (λ l. pairs_of size on l (0, y)) (sym (one-more 1 (recent size x.time right) x))
            ∙ sym (held-left y (recent size x.time left) (recent size x.time right ++ x ∷ [])))
    then-alike side is now (inr at) le = as-right side is now.0 now.1 at le
      where
        as-right : (side : ℕ) → (side ≡ 0) ⊎ (side ≡ 1) → (p : ℕ) (y : Tuple) → p ≡ 1 → x.time ≤ y.time
            → pairs_of size on (held_on_sides left right ++ (side, x) ∷ []) (p, y) ≡ pairs_of size on (then-held side) (p, y)
        as-right side (inl is) p y at le =
            rw (is, at)
            (pairs-append (held_on_sides left right) ((0, x) ∷ []) (1, y)
            ∙ ap (λ l. l ++ pairs_of size on ((0, x) ∷ []) (1, y)) (held-right y left right ∙ sym (recent-pairs 0 (1, y) x.time left le))
            ∙ sym (pairs-append (on_side 0 (recent size x.time left)) ((0, x) ∷ []) (1, y))
            ∙ ap (λ l. pairs_of size on l (1, y)) (sym (one-more 0 (recent size x.time left) x))
            ∙ sym (held-right y (recent size x.time left ++ x ∷ []) (recent size x.time right)))
        as-right side (inr is) p y at le =
            rw (is, at)
            (pairs-append (held_on_sides left right) ((1, x) ∷ []) (1, y)
            ∙ append-nil (pairs_of size on (held_on_sides left right) (1, y))
            ∙ held-right y left right
            ∙ sym (recent-pairs 0 (1, y) x.time left le)
            ∙ sym (held-right y (recent size x.time left) (recent size x.time right ++ x ∷ [])))

    -- what is given for an entry
    pub gives-now : (side : ℕ) → (side ≡ 0) ⊎ (side ≡ 1) → AllByRecursion (λ y. y.time ≤ x.time) (recent size x.time left) → AllNear size x.time (recent size x.time left)
        → AllByRecursion (λ y. y.time ≤ x.time) (recent size x.time right) → AllNear size x.time (recent size x.time right)
        → pairs_of size on (held_on_sides left right) (side, x) ≡ pairs_with on side x (against side (recent size x.time left) (recent size x.time right))
    gives-now side (inl is) early-l near-l early-r near-r =
        rw is
        (held-left x left right
        ∙ sym (recent-pairs 1 (0, x) x.time right (omega arith))
        ∙ other-side 0 1 x (recent size x.time right) refl early-r near-r)
    gives-now side (inr is) early-l near-l early-r near-r =
        rw is
        (held-right x left right
        ∙ sym (recent-pairs 0 (1, x) x.time left (omega arith))
        ∙ other-side 1 0 x (recent size x.time left) refl early-l near-l)

    -- what is given later
    pub gives-later : (side : ℕ) → (side ≡ 0) ⊎ (side ≡ 1) → (es : List PortTuple) → Since x.time es → TwoSides es
        → pairs_from size on (held_on_sides left right ++ (side, x) ∷ []) es ≡ pairs_from size on (then-held side) es
    gives-later side is es late two = alike-from es x.time (held_on_sides left right ++ (side, x) ∷ []) (then-held side) late two (then-alike side is)

-- ---- a side

pub All-recent : (P : Tuple → Type 0) (size t : ℕ) (xs : List Tuple) → AllByRecursion P xs → AllByRecursion P (recent size t xs)
All-recent P size t [] all = tt
All-recent P size t (x ∷ xs) all =
    elim (nat_lt size (t - x.time)) as (λ b. AllByRecursion P (if b then recent size t xs else x ∷ xs)) [ true ↦ All-recent P size t xs all.1 | false ↦ all ]

pub rises-recent : (size t : ℕ) (xs : List Tuple) → TimesNotFalling 0 xs → TimesNotFalling 0 (recent size t xs)
rises-recent size t [] h = tt
rises-recent size t (x ∷ xs) h =
    elim (nat_lt size (t - x.time)) as (λ b. TimesNotFalling 0 (if b then recent size t xs else x ∷ xs)) [ true ↦ rises-recent size t xs (lower 0 x.time xs zero-le h.1) | false ↦ h ]

pub rises-push : (a : ℕ) (xs : List Tuple) (x : Tuple) → TimesNotFalling a xs → AllByRecursion (λ y. y.time ≤ x.time) xs → a ≤ x.time → TimesNotFalling a (xs ++ x ∷ [])
rises-push a [] x h all le = (le, tt)
rises-push a (y ∷ ys) x h all le = (h.0, rises-push y.time ys x h.1 all.1 all.0)

near-from : (size t a : ℕ) (xs : List Tuple) → t ≤ a + size → TimesNotFalling a xs → AllNear size t xs
near-from size t a [] le h = tt
near-from size t a (x ∷ xs) le h = let up = h.0 in (omega (arith, le, up), near-from size t x.time xs (omega (arith, le, up)) h.1)

near-by : (size t : ℕ) (x : Tuple) (xs : List Tuple) → TimesNotFalling x.time xs → AllNear size t (recent size t xs) → (b : Bool) → nat_lt size (t - x.time) ≡ b
    → AllNear size t (if b then recent size t xs else x ∷ xs)
near-by size t x xs h ih true e = ih
near-by size t x xs h ih false e = let le : t ≤ x.time + size = grind (arith, tests) in (le, near-from size t x.time xs le h)

-- what isn't let go of can still meet a tuple of that time
pub near-recent : (size t : ℕ) (xs : List Tuple) → TimesNotFalling 0 xs → AllNear size t (recent size t xs)
near-recent size t [] h = tt
near-recent size t (x ∷ xs) h = near-by size t x xs h.1 (near-recent size t xs (lower 0 x.time xs zero-le h.1)) (nat_lt size (t - x.time)) refl

-- ---- a list of entries that come

-- what is held of a side while these come: in order of time, none later than any of them
pub record Held (xs : List Tuple) (coming : List PortTuple) : Type 0 where
  pub rises : TimesNotFalling 0 xs
  pub early : AllByRecursion (λ y. AllByRecursion (λ e. y.time ≤ (e.1).time) coming) xs

since : (side : ℕ) (x : Tuple) (es : List PortTuple) → AllByRecursion (λ e. tuple_earlier e (side, x) ≡ false) es → AllByRecursion (λ e. x.time ≤ (e.1).time) es
since side x es up = all_weaker (λ e. tuple_earlier e (side, x) ≡ false) (λ e. x.time ≤ (e.1).time) (λ e h. grind (arith, tests, h)) es up

module _ (size : ℕ) (on : Expr) (side : ℕ) (x : Tuple) (es : List PortTuple) (is : (side ≡ 0) ⊎ (side ≡ 1)) (rises : Rising tuple_earlier ((side, x) ∷ es)) where
  at-now : (xs : List Tuple) → Held xs ((side, x) ∷ es) → AllByRecursion (λ y. y.time ≤ x.time) (recent size x.time xs)
  at-now xs h =
      All-recent (λ y. y.time ≤ x.time) size x.time xs
      (all_weaker (λ y. AllByRecursion (λ e. y.time ≤ (e.1).time) ((side, x) ∷ es)) (λ y. y.time ≤ x.time) (λ y all. all.0) xs h.early)

  held-on : (xs : List Tuple) → Held xs ((side, x) ∷ es) → Held (recent size x.time xs) es
  held-on xs h = record {
    rises = rises-recent size x.time xs h.rises;
    early = All-recent (λ y. AllByRecursion (λ e. y.time ≤ (e.1).time) es) size x.time xs
        (all_weaker (λ y. AllByRecursion (λ e. y.time ≤ (e.1).time) ((side, x) ∷ es)) (λ y. AllByRecursion (λ e. y.time ≤ (e.1).time) es) (λ y all. all.1) xs h.early);
  }

  held-more : (xs : List Tuple) → Held xs ((side, x) ∷ es) → Held (recent size x.time xs ++ x ∷ []) es
  held-more xs h = record {
    rises = rises-push 0 (recent size x.time xs) x (rises-recent size x.time xs h.rises) (at-now xs h) zero-le;
    early = all_push (λ y. AllByRecursion (λ e. y.time ≤ (e.1).time) es) (recent size x.time xs) x (held-on xs h).early (since side x es rises.0);
  }

  pub held_left : (left : List Tuple) → Held left ((side, x) ∷ es) → Held (left_with side x (recent size x.time left)) es
  held_left left h = elim (side == 0) as (λ b. Held (if b then recent size x.time left ++ x ∷ [] else recent size x.time left) es) [ true ↦ held-more left h | false ↦ held-on left h ]

  pub held_right : (right : List Tuple) → Held right ((side, x) ∷ es) → Held (right_with side x (recent size x.time right)) es
  held_right right h = elim (side == 0) as (λ b. Held (if b then recent size x.time right else recent size x.time right ++ x ∷ []) es) [ true ↦ held-on right h | false ↦ held-more right h ]

  -- what comes first, and then the others with what is held
  pub next_entry : (left right : List Tuple) → TwoSides es → Held left ((side, x) ∷ es) → Held right ((side, x) ∷ es)
      → pairs_from size on (held_on_sides left right) ((side, x) ∷ es)
      ≡ pairs_with on side x (against side (recent size x.time left) (recent size x.time right))
      ++ pairs_from size on (held_on_sides (left_with side x (recent size x.time left)) (right_with side x (recent size x.time right))) es
  next_entry left right two l r =
      ap₂ (λ a b. a ++ b)
      (gives-now size on x left right side is (at-now left l) (near-recent size x.time left l.rises) (at-now right r) (near-recent size x.time right r.rises))
      (gives-later size on x left right side is es (since side x es rises.0) two)

all-at : (side : ℕ) (xs : List Tuple) → (side ≡ 0) ⊎ (side ≡ 1) → TwoSides (on_side side xs)
all-at side [] is = tt
all-at side (x ∷ xs) is = (is, all-at side xs is)

pub merge_rises : (ins : List (List Tuple)) → Rising tuple_earlier (merge_tuples ins)
merge_rises ins = sort_rising tuple_earlier (IsStrictWeakOrder-by_number (λ e. (e.1).time)) (ports_of ins)

-- a merge of two streams has two sides
pub merge_sides : (left right : List Tuple) → TwoSides (merge_tuples (left ∷ right ∷ []))
merge_sides left right =
    all_sort (λ e. (e.0 ≡ 0) ⊎ (e.0 ≡ 1)) tuple_earlier (ports_of (left ∷ right ∷ []))
    (all_append (λ e. (e.0 ≡ 0) ⊎ (e.0 ≡ 1)) (on_side 0 left) (on_side 1 right ++ []) (all-at 0 left (inl refl))
    (all_append (λ e. (e.0 ≡ 0) ⊎ (e.0 ≡ 1)) (on_side 1 right) [] (all-at 1 right (inr refl)) tt))
