-- Elements that come in turn are the merge of their two sides.
use Rattle.std.proofs.Common.{◌≡◌, ℕ, zero, suc, ◌<◌, ◌≤◌, Bool, true, false, cond, ◌&&◌, ◌||◌, ◌⊎◌, inl, inr, IsTrue, List, [], ◌∷◌, ◌++◌, map, length, subst, refl, ap, sym, ◌∙◌, zero-le, arith, tests}
use Rattle.std.specs.Prelude.{if◌then◌else◌, nat_lt, nat_le, ◌==◌}
use Rattle.std.specs.List.{AllByRecursion, filter}
use Rattle.sq_value.specs.declared.Value.{Value}
use Rattle.sq_value.specs.declared.Tuple.{Tuple}
use Rattle.sq_words.specs.Lists.{insert_by, sort_by}
use Rattle.sq_value.specs.Values.{Columns}
use Rattle.sq_item.specs.Things.{Content, Sign, Body}
use Rattle.sq_lists.specs.Merge.{tuple_earlier, merge_tuples}
use Rattle.sq_lists.specs.Sides.{on_side}
use Rattle.sq_oper.specs.declared.tally.Position.{Position}
use Rattle.sq_oper.specs.declared.tally.Position.TheVariants.{Start, At}
use Rattle.sq_oper.specs.Entries.{Entry}
use Rattle.sq_oper.specs.Order.{may_come, time_of, position_after, content_fits, InOrder, AllFit, unmarked, IsFuture}
use Rattle.sq_oper.specs.Streams.{tuple_in}
use Rattle.sq_oper.proofs.StreamLemmas.{may-come-time}
use Rattle.sq_oper.proofs.FedLemmas.{tuple_entry}
use Rattle.sq_join.specs.Elements.{Element, elements_of, side_of}
use Rattle.sq_join.specs.Sides.{most_at, join_fits}
use Rattle.sq_join.proofs.ElementWords.{TwoSides, InTurn, position_port}
use Rattle.sq_words.proofs.Alls.{all_weaker}

-- ---- the merge

swap-by : (a x y : Element) (ys : List Element) → (x.1).time < (a.1).time → insert_by tuple_earlier a (insert_by tuple_earlier x ys) ≡ insert_by tuple_earlier x (insert_by tuple_earlier a ys)
    → (b c : Bool) → tuple_earlier y x ≡ b → tuple_earlier y a ≡ c
    → insert_by tuple_earlier a (insert_by tuple_earlier x (y ∷ ys)) ≡ insert_by tuple_earlier x (insert_by tuple_earlier a (y ∷ ys))
swap-by a x y ys lt ih true true eb ec = simp (eb, ec, ih)
swap-by a x y ys lt ih true false eb ec = absurd (grind (arith, tests))
swap-by a x y ys lt ih false true eb ec =
    let first : tuple_earlier x a ≡ true = grind (arith, tests) in
    simp (eb, ec, first)
swap-by a x y ys lt ih false false eb ec =
    let first : tuple_earlier x a ≡ true = grind (arith, tests) in
    let second : tuple_earlier a x ≡ false = grind (arith, tests) in
    simp (eb, ec, first, second)

-- a later one may be put in before an earlier one
swap : (a x : Element) (ys : List Element) → (x.1).time < (a.1).time → insert_by tuple_earlier a (insert_by tuple_earlier x ys) ≡ insert_by tuple_earlier x (insert_by tuple_earlier a ys)
swap a x [] lt =
    let first : tuple_earlier x a ≡ true = grind (arith, tests) in
    let second : tuple_earlier a x ≡ false = grind (arith, tests) in
    simp (first, second)
swap a x (y ∷ ys) lt = swap-by a x y ys lt (swap a x ys lt) (tuple_earlier y x) (tuple_earlier y a) refl refl

put-behind : (left : List Tuple) (x : Element) (more : List Element) → AllByRecursion (λ a. (x.1).time < a.time) left
    → sort_by tuple_earlier (on_side 0 left ++ x ∷ more) ≡ insert_by tuple_earlier x (sort_by tuple_earlier (on_side 0 left ++ more))
put-behind [] x more all = refl
put-behind (a ∷ left) x more all =
    ap (insert_by tuple_earlier (0, a)) (put-behind left x more all.1) ∙ swap (0, a) x (sort_by tuple_earlier (on_side 0 left ++ more)) all.0

insert-first : (side : ℕ) (x : Tuple) (es : List Element) → InTurn x.time side es → insert_by tuple_earlier (side, x) es ≡ (side, x) ∷ es
insert-first side x [] turn = refl
insert-first side x (e ∷ es) turn =
    let le = turn.0.0 in
    let e' : tuple_earlier e (side, x) ≡ false = grind (arith, tests) in
    ap (λ b. if b then e ∷ insert_by tuple_earlier (side, x) es else (side, x) ∷ e ∷ es) e'

-- elements in turn come at a time or later
pub turn-since : (t side : ℕ) (es : List Element) → InTurn t side es → AllByRecursion (λ (e : Element). t ≤ (e.1).time) es
turn-since t side [] turn = tt
turn-since t side (e ∷ es) turn =
    let le = turn.0.0 in
    (le, all_weaker (λ (a : Element). (e.1).time ≤ (a.1).time) (λ (a : Element). t ≤ (a.1).time) (λ a h. omega (arith, le, h)) es (turn-since (e.1).time e.0 es turn.1))

all-if : (P : Tuple → Type 0) (b : Bool) (e : Element) (es : List Element) → P e.1 → AllByRecursion P (map (λ (e : Element). e.1) es)
    → AllByRecursion P (map (λ (e : Element). e.1) (cond b (e ∷ es) es))
all-if P true e es p all = (p, all)
all-if P false e es p all = all

not-earlier : (t p side : ℕ) (es : List Element) → InTurn t p es → AllByRecursion (λ a. t ≤ a.time) (side_of side es)
not-earlier t p side [] turn = tt
not-earlier t p side (e ∷ es) turn =
    let le = turn.0.0 in
    all-if (λ a. t ≤ a.time) (e.0 == side) e (filter (λ e. e.0 == side) es) le
    (all_weaker (λ a. (e.1).time ≤ a.time) (λ a. t ≤ a.time) (λ a h. omega (arith, le, h)) (side_of side es) (not-earlier (e.1).time e.0 side es turn.1))

strictly : (a b : ℕ) → a ≤ b → (a ≡ b → 1 ≤ 0) → (c d : Bool) → nat_lt a b ≡ c → (a == b) ≡ d → a < b
strictly a b le at true d e e' = grind (arith, tests)
strictly a b le at false true e e' = let same : a ≡ b = grind (arith, tests) in let no = at same in absurd (grind arith)
strictly a b le at false false e e' = absurd (grind (arith, tests))

left-by : (t : ℕ) (e : Element) (es : List Element) → (e.0 ≡ 0) ⊎ (e.0 ≡ 1) → (t ≤ (e.1).time) × (t ≡ (e.1).time → 1 ≤ e.0) → InTurn (e.1).time e.0 es
    → (InTurn (e.1).time 1 es → TwoSides es → AllByRecursion (λ a. (e.1).time < a.time) (side_of 0 es)) → TwoSides es → AllByRecursion (λ a. t < a.time) (side_of 0 (e ∷ es))
left-by t e es (inl is) first more ih two =
    let at : t ≡ (e.1).time → 1 ≤ 0 = λ h. let k = first.1 h in omega (arith, is, k) in
    let lt : t < (e.1).time = strictly t (e.1).time first.0 at (nat_lt t (e.1).time) (t == (e.1).time) refl refl in
    all-if (λ a. t < a.time) (e.0 == 0) e (filter (λ e. e.0 == 0) es) lt
    (all_weaker (λ a. (e.1).time ≤ a.time) (λ a. t < a.time) (λ a h. omega (arith, lt, h)) (side_of 0 es) (not-earlier (e.1).time e.0 0 es more))
left-by t e es (inr is) first more ih two =
    let le = first.0 in
    let skip : (e.0 == 0) ≡ false = grind (arith, tests) in
    let rest = ih (subst (λ (p : ℕ). InTurn (e.1).time p es) is more) two in
    subst (λ (b : Bool). AllByRecursion (λ a. t < a.time) (map (λ (e : Element). e.1) (cond b (e ∷ filter (λ e. e.0 == 0) es) (filter (λ e. e.0 == 0) es)))) (sym skip)
    (all_weaker (λ a. (e.1).time < a.time) (λ a. t < a.time) (λ a h. omega (arith, le, h)) (side_of 0 es) rest)

-- after one on the right each on the left is later
left-later : (t : ℕ) (es : List Element) → InTurn t 1 es → TwoSides es → AllByRecursion (λ a. t < a.time) (side_of 0 es)
left-later t [] turn two = tt
left-later t (e ∷ es) turn two = left-by t e es two.0 turn.0 turn.1 (left-later (e.1).time es) two.1

merged-by : (side : ℕ) (x : Tuple) (es : List Element) → (side ≡ 0) ⊎ (side ≡ 1) → InTurn x.time side es → TwoSides es → merge_tuples (side_of 0 es ∷ side_of 1 es ∷ []) ≡ es
    → merge_tuples (side_of 0 ((side, x) ∷ es) ∷ side_of 1 ((side, x) ∷ es) ∷ []) ≡ (side, x) ∷ es
merged-by side x es (inl is) more two ih =
    let more' : InTurn x.time 0 es = subst (λ (p : ℕ). InTurn x.time p es) is more in
    rw is (ap (insert_by tuple_earlier (0, x)) ih ∙ insert-first 0 x es more')
merged-by side x es (inr is) more two ih =
    let more' : InTurn x.time 1 es = subst (λ (p : ℕ). InTurn x.time p es) is more in
    rw is
    (put-behind (side_of 0 es) (1, x) (on_side 1 (side_of 1 es) ++ []) (left-later x.time es more' two)
    ∙ ap (insert_by tuple_earlier (1, x)) ih
    ∙ insert-first 1 x es more')

-- elements in turn are the merge of their sides
pub merged : (t p : ℕ) (es : List Element) → InTurn t p es → TwoSides es → merge_tuples (side_of 0 es ∷ side_of 1 es ∷ []) ≡ es
merged t p [] turn two = refl
merged t p (e ∷ es) turn two = merged-by e.0 e.1 es two.0 turn.1 two.1 (merged (e.1).time e.0 es turn.1 two.1)

-- ---- futures

at-once : (t u p q : ℕ) (b c d : Bool) → nat_lt t u ≡ b → (t == u) ≡ c → nat_le p q ≡ d → IsTrue (b || (c && (d || false))) → t ≡ u → p ≤ q
at-once t u p q true c d e e' e'' h same = absurd (grind (arith, tests))
at-once t u p q false true true e e' e'' h same = grind (arith, tests)
at-once t u p q false true false e e' e'' h same = cc
at-once t u p q false false d e e' e'' h same = cc

turn-of : (place : Position) (port time : ℕ) (fields : List Value) → IsTrue (may_come place (tuple_entry port time fields))
    → (time_of place ≤ time) × (time_of place ≡ time → position_port place ≤ port)
turn-of Start port time fields h = (zero-le, (λ same. zero-le))
turn-of (At t p m) port time fields h =
    (may-come-time (At t p m) (tuple_entry port time fields) h, (λ same. at-once t time p port (nat_lt t time) (t == time) (nat_le p port) refl refl refl h same))

load-turn : (fits : ℕ → List Value → Bool) (place : Position) (port time : ℕ) (content : Content) (es : List Element)
    → IsTrue (may_come place (record { port = port; thing = record { time = time; content = content } })) → IsTrue (content_fits unmarked fits port content) → InTurn time port es
    → InTurn (time_of place) (position_port place) (on_side port (tuple_in time content) ++ es)
load-turn fits place port time (Sign m) es may fit turn = absurd (let e : ⊥ = cc in e)
load-turn fits place port time (Body fields) es may fit turn = (turn-of place port time fields may, turn)

elements-turn : (fits : ℕ → List Value → Bool) (place : Position) (future : List Entry) → InOrder place future → AllFit unmarked fits future → InTurn (time_of place) (position_port place) (elements_of future)
elements-turn fits place [] order fit = tt
elements-turn fits place (e ∷ es) order fit =
    load-turn fits place e.port e.thing.time e.thing.content (elements_of es) order.0 fit.0 (elements-turn fits (position_after place e) es order.1 fit.1)

-- the elements of a future come in turn
pub future-turn : (fits : ℕ → List Value → Bool) (place : Position) (future : List Entry) → IsFuture unmarked fits place future → InTurn (time_of place) (position_port place) (elements_of future)
future-turn fits place future h = elements-turn fits place future h.in_order h.fitting

which-side : (port : ℕ) (b c : Bool) → nat_le port 1 ≡ b → IsTrue (b && c) → (port ≡ 0) ⊎ (port ≡ 1)
which-side zero b c e h = inl refl
which-side (suc zero) b c e h = inr refl
which-side (suc (suc n)) true c e h = absurd (grind (arith, tests))
which-side (suc (suc n)) false c e h = cc

pub fit-side : (columns : Columns) (port : ℕ) (fields : List Value) → IsTrue (join_fits columns port fields) → (port ≡ 0) ⊎ (port ≡ 1)
fit-side columns port fields h = which-side port (nat_le port 1) (nat_le (length fields) (most_at columns port)) refl h

two-load : (columns : Columns) (port time : ℕ) (content : Content) (es : List Element) → IsTrue (content_fits unmarked (join_fits columns) port content) → TwoSides es
    → TwoSides (on_side port (tuple_in time content) ++ es)
two-load columns port time (Sign m) es fit two = two
two-load columns port time (Body fields) es fit two = (fit-side columns port fields fit, two)

two-sides : (columns : Columns) (future : List Entry) → AllFit unmarked (join_fits columns) future → TwoSides (elements_of future)
two-sides columns [] fit = tt
two-sides columns (e ∷ es) fit = two-load columns e.port e.thing.time e.thing.content (elements_of es) fit.0 (two-sides columns es fit.1)

pub future-sides : (columns : Columns) (place : Position) (future : List Entry) → IsFuture unmarked (join_fits columns) place future → TwoSides (elements_of future)
future-sides columns place future h = two-sides columns future h.fitting
