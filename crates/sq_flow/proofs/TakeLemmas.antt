-- Whether an item may be fed, by the tests that are run.
use Rattle.std.proofs.Common.{◌≡◌, ◌≢◌, ℕ, zero, suc, ◌≤◌, Bool, true, false, ◌&&◌, ◌||◌, List, [], ◌∷◌, ◌++◌, length, drop, slice_get, Option, Some, None, refl, ap, sym, ◌∙◌, arith, tests}
use Rattle.std.proofs.lemmas.Bool.{and_right}
use Rattle.std.specs.Prelude.{nat_lt, nat_le, ◌==◌, is_some}
use Rattle.sq_value.specs.declared.Kind.{Kind}
use Rattle.sq_value.specs.declared.Value.{Value}
use Rattle.sq_value.specs.Values.{is_of_kind, kinds_fit}
use Rattle.sq_item.specs.declared.Item.{Item}
use Rattle.sq_item.specs.declared.Mark.{Mark}
use Rattle.sq_item.specs.SoundItems.{IsSoundItem}
use Rattle.sq_item.specs.Things.{Sign, Body, mark_part, body_part}
use Rattle.sq_oper.specs.declared.tally.Position.{Position}
use Rattle.sq_oper.specs.declared.tally.Position.TheVariants.{Start, At}
use Rattle.sq_oper.specs.Entries.{at_port}
use Rattle.sq_oper.specs.Order.{may_come, position_after, IsFuture}
use Rattle.sq_flow.specs.declared.wires.Arc.{Arc}
use Rattle.sq_flow.specs.Takes.{takes_of, fits_of, MayBeFed, may_stand, mark_fits, kinds_take}

tuple-stands : (place : Position) (port time : ℕ) (f : List Value) → may_come place (record { port = port; thing = record { time = time; content = Body f } }) ≡ may_stand place port time false
tuple-stands Start port time f = refl
tuple-stands (At last before marked) port time f = by (nat_lt last time) (last == time) (nat_le before port)
  where
    by : (a b c : Bool) → (a || (b && ((true && c) || (false && marked && nat_lt before port)))) ≡ (a || (b && c))
    by true b c = refl
    by false true true = refl
    by false true false = refl
    by false false c = refl

mark-stands : (place : Position) (port time : ℕ) (m : Mark) → may_come place (record { port = port; thing = record { time = time; content = Sign m } }) ≡ may_stand place port time true
mark-stands Start port time m = refl
mark-stands (At last before marked) port time m = by (nat_lt last time) (last == time) (nat_le before port) marked (nat_lt before port)
  where
    by : (a b c d e : Bool) → (a || (b && ((false && c) || (true && d && e)))) ≡ (a || (b && (d && e)))
    by true b c d e = refl
    by false true c d e = refl
    by false false c d e = refl

-- a tuple may follow a mark of its time and port
follows : (place : Position) (port time : ℕ) (m : Mark) (f : List Value)
    → may_come (position_after place (record { port = port; thing = record { time = time; content = Sign m } })) (record { port = port; thing = record { time = time; content = Body f } }) ≡ true
follows place port time m f = same time port
  where
    same : (t p : ℕ) → (nat_lt t t || (t == t && ((true && nat_le p p) || (false && true && nat_lt p p)))) ≡ true
    same t p = grind (arith, tests)

pub stands-yes : (at : Arc) (port : ℕ) (place : Position) (time : ℕ) (m : Option Mark) (b : Option (List Value)) → mark_fits at.marked m ≡ true → kinds_take at.kinds b ≡ true
    → may_stand place port time (is_some m) ≡ true → IsFuture (takes_of at) (fits_of at) place (at_port port (mark_part time m ++ body_part time b))
stands-yes at port place time None None f g s = record { in_order = tt; fitting = tt }
stands-yes at port place time None (Some b) f g s = record { in_order = (tuple-stands place port time b ∙ s, tt); fitting = (g, tt) }
stands-yes at port place time (Some m) None f g s = record { in_order = (mark-stands place port time m ∙ s, tt); fitting = (f, tt) }
stands-yes at port place time (Some m) (Some b) f g s = record { in_order = (mark-stands place port time m ∙ s, (follows place port time m b, tt)); fitting = (f, (g, tt)) }

pub stands-no : (at : Arc) (port : ℕ) (place : Position) (time : ℕ) (m : Option Mark) (b : Option (List Value)) → (is_some m || is_some b) ≡ true
    → IsFuture (takes_of at) (fits_of at) place (at_port port (mark_part time m ++ body_part time b))
    → (mark_fits at.marked m ≡ true) × (kinds_take at.kinds b ≡ true) × (may_stand place port time (is_some m) ≡ true)
stands-no at port place time None None s h = cc
stands-no at port place time None (Some b) s h = (refl, h.fitting.0, sym (tuple-stands place port time b) ∙ h.in_order.0)
stands-no at port place time (Some m) None s h = (h.fitting.0, refl, sym (mark-stands place port time m) ∙ h.in_order.0)
stands-no at port place time (Some m) (Some b) s h = (h.fitting.0, h.fitting.1.0, sym (mark-stands place port time m) ∙ h.in_order.0)

pub may-yes : (at : Arc) (port : ℕ) (place : Position) (clock : ℕ) (item : Item) → item.time ≤ clock → mark_fits at.marked item.mark ≡ true → kinds_take at.kinds item.body ≡ true
    → may_stand place port item.time (is_some item.mark) ≡ true → MayBeFed at port place clock item
may-yes at port place clock item le f g s = record { in_time = le; future = stands-yes at port place item.time item.mark item.body f g s }

pub may-no : (at : Arc) (port : ℕ) (place : Position) (clock : ℕ) (item : Item) → IsSoundItem item → MayBeFed at port place clock item
    → (item.time ≤ clock) × (mark_fits at.marked item.mark ≡ true) × (kinds_take at.kinds item.body ≡ true) × (may_stand place port item.time (is_some item.mark) ≡ true)
may-no at port place clock item s h = let r = stands-no at port place item.time item.mark item.body s.some h.future in (h.in_time, r.0, r.1, r.2)

pub ruleset take_lemmas = (may-yes, may-no)

-- values that are not as many as kinds don't fit
pub kinds_uneven : (kinds : List Kind) (values : List Value) → length values ≢ length kinds → kinds_fit kinds values ≡ false
kinds_uneven [] [] ne = absurd (ne refl)
kinds_uneven [] (v ∷ values) ne = refl
kinds_uneven (k ∷ kinds) [] ne = refl
kinds_uneven (k ∷ kinds) (v ∷ values) ne = and_right (is_of_kind k v) (kinds_fit kinds values) (kinds_uneven kinds values (λ e. ne (ap suc e)))

-- one that fits is passed over
pub kinds_step : (kinds : List Kind) (values : List Value) (at : ℕ) (k : Kind) (v : Value) → slice_get kinds at ≡ Some k → slice_get values at ≡ Some v → is_of_kind k v ≡ true
    → kinds_fit (drop (suc at) kinds) (drop (suc at) values) ≡ kinds_fit (drop at kinds) (drop at values)
kinds_step [] values at k v here there h = cc here
kinds_step (x ∷ kinds) [] at k v here there h = cc there
kinds_step (x ∷ kinds) (y ∷ values) zero k v here there h =
    let a : x ≡ k = cc here in
    let b : y ≡ v = cc there in
    ap (λ c. c && kinds_fit kinds values) (sym (ap (λ z. is_of_kind z y) a ∙ ap (is_of_kind k) b ∙ h))
kinds_step (x ∷ kinds) (y ∷ values) (suc at) k v here there h = kinds_step kinds values at k v here there h

pub ruleset kind_lemmas = (kinds_uneven)
