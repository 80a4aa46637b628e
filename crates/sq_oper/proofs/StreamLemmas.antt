-- Tuples in tagged lists, and places.
use Rattle.std.proofs.Common.{◌≡◌, ℕ, ◌≤◌, Bool, true, false, cond, ◌&&◌, ◌||◌, IsTrue, List, [], ◌∷◌, ◌++◌, Option, Some, None, refl, ap, zero-le, arith, tests, append_assoc, sym, ◌∙◌}
use Rattle.std.specs.Prelude.{if◌then◌else◌, nat_lt, ◌==◌}
use Rattle.std.specs.List.{AllByRecursion}
use Rattle.sq_value.specs.declared.Value.{Value}
use Rattle.sq_value.specs.declared.Tuple.{Tuple}
use Rattle.sq_item.specs.declared.Mark.{Mark}
use Rattle.sq_item.specs.Things.{Thing, Sign, Body, mark_part, body_part}
use Rattle.sq_oper.specs.declared.tally.Position.{Position}
use Rattle.sq_oper.specs.declared.tally.Position.TheVariants.{Start, At}
use Rattle.sq_oper.specs.Entries.{Entry, at_port}
use Rattle.sq_oper.specs.Order.{may_come, time_of, after_all, InOrder}
use Rattle.sq_oper.specs.Outflow.{ThingsUpTo}
use Rattle.sq_oper.specs.Streams.{thing_of, things, at_zero, tuples_in, tuple_in}

pub things-append : (xs ys : List Tuple) → things (xs ++ ys) ≡ things xs ++ things ys
things-append [] ys = refl
things-append (x ∷ xs) ys = ap (λ l. thing_of x ∷ l) (things-append xs ys)

pub at_zero-append : {A : Type 0} (q : ℕ) (xs ys : List A) → at_zero q (xs ++ ys) ≡ at_zero q xs ++ at_zero q ys
at_zero-append q xs ys = elim (0 == q) as (λ b. (if b then xs ++ ys else []) ≡ (if b then xs else []) ++ (if b then ys else [])) [ true ↦ refl | false ↦ refl ]

pub UpTo-things : (t : ℕ) (xs : List Tuple) → AllByRecursion (λ x. x.time ≤ t) xs → ThingsUpTo t (things xs)
UpTo-things t [] all = tt
UpTo-things t (x ∷ xs) all = (all.0, UpTo-things t xs all.1)

pub at_zero-nil : {A : Type 0} (q : ℕ) → at_zero {A = A} q [] ≡ []
at_zero-nil {A} q = elim (0 == q) as (λ b. cond {A = List A} b [] [] ≡ []) [ true ↦ refl | false ↦ refl ]

pub All-at_zero : {A : Type 0} (P : A → Type 0) (q : ℕ) (xs : List A) → AllByRecursion P xs → AllByRecursion P (at_zero q xs)
All-at_zero P q xs all = elim (0 == q) as (λ b. AllByRecursion P (if b then xs else [])) [ true ↦ all | false ↦ tt ]

pub UpTo-at_zero : (t q : ℕ) (xs : List Thing) → ThingsUpTo t xs → ThingsUpTo t (at_zero q xs)
UpTo-at_zero t q xs h = All-at_zero (λ thing. thing.time ≤ t) q xs h

-- an operator that was fed a tuple stands at its time
pub time-after : (place : Position) (port time : ℕ) (mark : Option Mark) (fields : List Value)
    → time_of (after_all place (at_port port (mark_part time mark ++ body_part time (Some fields)))) ≡ time
time-after place port time None fields = refl
time-after place port time (Some mark) fields = refl

not-before : (t u : ℕ) (b c : Bool) → nat_lt t u ≡ b → (t == u) ≡ c → (rest : Bool) → IsTrue (b || (c && rest)) → t ≤ u
not-before t u true c e e' rest h = grind (arith, tests)
not-before t u false true e e' rest h = grind (arith, tests)
not-before t u false false e e' rest h = cc

-- an entry that may come has no earlier time than the last one
pub may-come-time : (place : Position) (e : Entry) → IsTrue (may_come place e) → time_of place ≤ e.thing.time
may-come-time Start e h = zero-le
may-come-time (At t p m) e h = not-before t e.thing.time (nat_lt t e.thing.time) (t == e.thing.time) refl refl _ h

pub time-before : (place : Position) (port time : ℕ) (mark : Option Mark) (fields : List Value)
    → InOrder place (at_port port (mark_part time mark ++ body_part time (Some fields))) → time_of place ≤ time
time-before place port time None fields h = may-come-time place (record { port = port; thing = record { time = time; content = Body fields } }) h.0
time-before place port time (Some mark) fields h = may-come-time place (record { port = port; thing = record { time = time; content = Sign mark } }) h.0

pub tuples_back : (ts : List Tuple) → tuples_in (things ts) ≡ ts
tuples_back [] = refl
tuples_back (t ∷ ts) = ap (λ l. t ∷ l) (tuples_back ts)

pub tuples_append : (xs ys : List Thing) → tuples_in (xs ++ ys) ≡ tuples_in xs ++ tuples_in ys
tuples_append [] ys = refl
tuples_append (x ∷ xs) ys = ap (λ z. tuple_in x.time x.content ++ z) (tuples_append xs ys) ∙ sym (append_assoc (tuple_in x.time x.content) (tuples_in xs) (tuples_in ys))
