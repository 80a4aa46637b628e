-- Decisions: what was shown of them, and whose they are.
use Rattle.std.proofs.Common.{◌≡◌, ◌≢◌, ℕ, ◌+◌, ◌-◌, ◌<◌, eqb, cond, Bool, true, false, List, [], ◌∷◌, ◌++◌, Option, Some, None, refl, ap, sym, ◌∙◌, subst, append_assoc, append-nil, arith}
use Rattle.std.specs.List.{AllByRecursion}
use Rattle.sq_value.specs.declared.Value.{Value}
use Rattle.sq_words.specs.Lists.{IsPrefixOf}
use Rattle.sq_left.proofs.MergeLemmas.{eqb-no, eqb-not}
use Rattle.sq_road.specs.Levels.{LevelTable, AgreesWith}
use Rattle.sq_oper.specs.declared.operator.Operator.{Ghosts}
use Rattle.sq_oper.specs.declared.outs.Decision.{Decision}
use Rattle.sq_oper.specs.declared.outs.Event.{Event}
use Rattle.sq_oper.specs.declared.outs.Event.TheVariants.{Dropped, Plan}
use Rattle.sq_oper.specs.declared.tally.Position.{Position}
use Rattle.sq_oper.specs.Entries.{Entry}
use Rattle.sq_oper.specs.Order.{position_after, after_all, InOrder, AllFit, IsFuture}
use Rattle.sq_flow.specs.declared.seats.Seat.{Seat}
use Rattle.sq_flow.specs.declared.wires.Wires.{Wires}
use Rattle.sq_flow.specs.Wiring.{IsOwn}
use Rattle.sq_flow.specs.Seats.{holds_at, Owns}
use Rattle.sq_flow.specs.Events.{lines_of, of_drop, drops_of}
use Rattle.sq_flow.proofs.EventLemmas.{lines-append, drops-append}
use Rattle.std.proofs.lemmas.Map.Views.{exact_unsigned_eq}
use Rattle.sq_words.proofs.Numbers.{eqb_true}

pub all-split : {A : Type 0} (P : A → Type 0) (xs ys : List A) → AllByRecursion P (xs ++ ys) → AllByRecursion P xs × AllByRecursion P ys
all-split P [] ys h = (tt, h)
all-split P (x ∷ xs) ys h = let r = all-split P xs ys h.1 in ((h.0, r.0), r.1)

-- events
pub drops-plan : (w : ℕ) (events : List Event) (epoch load capacity saved : ℕ) (fits : Bool) → drops_of w (events ++ Plan epoch load capacity saved fits ∷ []) ≡ drops_of w events
drops-plan w events epoch load capacity saved fits = drops-append w events (Plan epoch load capacity saved fits ∷ []) ∙ append-nil (drops_of w events)

pub drops-drop : (w : ℕ) (events : List Event) (d : Decision) → drops_of w (events ++ Dropped d ∷ []) ≡ drops_of w events ++ of_drop w (d ∷ [])
drops-drop w events d = drops-append w events (Dropped d ∷ []) ∙ ap (λ z. drops_of w events ++ z) (append-nil (of_drop w (d ∷ [])))

pub lines-drop : (o : ℕ) (events : List Event) (d : Decision) → lines_of o (events ++ Dropped d ∷ []) ≡ lines_of o events
lines-drop o events d = lines-append o events (Dropped d ∷ []) ∙ append-nil (lines_of o events)

pub of-drop-append : (w : ℕ) (xs ys : List Decision) → of_drop w (xs ++ ys) ≡ of_drop w xs ++ of_drop w ys
of-drop-append w [] ys = refl
of-drop-append w (d ∷ xs) ys = ap (λ z. cond (eqb d.drop w) (d ∷ []) [] ++ z) (of-drop-append w xs ys) ∙ sym (append_assoc (cond (eqb d.drop w) (d ∷ []) []) (of_drop w xs) (of_drop w ys))

-- one more decision
pub decided-next : (w : ℕ) (ds : List Decision) (d : Decision) (was mid is : List Decision) → mid ≡ was ++ of_drop w ds → is ≡ mid ++ of_drop w (d ∷ []) → is ≡ was ++ of_drop w (ds ++ d ∷ [])
decided-next w ds d was mid is e f =
    f ∙ ap (λ z. z ++ of_drop w (d ∷ [])) e ∙ append_assoc was (of_drop w ds) (of_drop w (d ∷ [])) ∙ ap (λ z. was ++ z) (sym (of-drop-append w ds (d ∷ [])))

-- whose decisions they are
pub own-below : (wires : Wires) (actor : ℕ) (ds : List Decision) → AllByRecursion (IsOwn wires actor) ds → AllByRecursion (λ d. d.drop < wires.shown - wires.sheds) ds
own-below wires actor [] h = tt
own-below wires actor (d ∷ ds) h = let own = h.0.0 in let low = h.0.1 in (omega (arith, own, low), own-below wires actor ds h.1)

pub of-own : (wires : Wires) (actor w : ℕ) (ds : List Decision) → AllByRecursion (IsOwn wires actor) ds → of_drop w ds ≡ cond (eqb (wires.sheds + w) actor) ds []
of-own wires actor w ds all = by (eqb (wires.sheds + w) actor) refl
  where
    mine : wires.sheds + w ≡ actor → (ds : List Decision) → AllByRecursion (IsOwn wires actor) ds → of_drop w ds ≡ ds
    mine same [] h = refl
    mine same (d ∷ ds) h =
        let own = h.0.0 in
        ap (λ b. cond b (d ∷ []) [] ++ of_drop w ds) (eqb_true d.drop w (omega (arith, own, same))) ∙ ap (λ z. d ∷ z) (mine same ds h.1)

    none : wires.sheds + w ≢ actor → (ds : List Decision) → AllByRecursion (IsOwn wires actor) ds → of_drop w ds ≡ []
    none ne [] h = refl
    none ne (d ∷ ds) h =
        let own = h.0.0 in
        let apart : d.drop ≢ w = λ same. ne (ap (λ n. wires.sheds + n) (sym same) ∙ own) in
        ap (λ b. cond b (d ∷ []) [] ++ of_drop w ds) (eqb-not d.drop w apart) ∙ none ne ds h.1

    by : (b : Bool) → eqb (wires.sheds + w) actor ≡ b → of_drop w ds ≡ cond b ds []
    by true h = mine (exact_unsigned_eq (wires.sheds + w) actor h) ds all
    by false h = none (eqb-no (wires.sheds + w) actor h) ds all

-- the decisions of one operator are all there is of its drop, and nothing of another
pub own-front : (wires : Wires) (actor w : ℕ) (ds left : List Decision) → AllByRecursion (IsOwn wires actor) ds → (wires.sheds + w ≡ actor → IsPrefixOf ds left) → IsPrefixOf (of_drop w ds) left
own-front wires actor w ds left all front = by (eqb (wires.sheds + w) actor) refl
  where
    by : (b : Bool) → eqb (wires.sheds + w) actor ≡ b → IsPrefixOf (of_drop w ds) left
    by true h = subst (λ z. IsPrefixOf z left) (sym (of-own wires actor w ds all ∙ ap (λ b. cond b ds []) h)) (front (exact_unsigned_eq (wires.sheds + w) actor h))
    by false h = subst (λ z. IsPrefixOf z left) (sym (of-own wires actor w ds all ∙ ap (λ b. cond b ds []) h)) (left, refl)

-- a future behind what came
order-both : (place : Position) (xs ys : List Entry) → InOrder place xs → InOrder (after_all place xs) ys → InOrder place (xs ++ ys)
order-both place [] ys h k = k
order-both place (x ∷ xs) ys h k = (h.0, order-both (position_after place x) xs ys h.1 k)

fit-both : (marks : ℕ → Bool) (fits : ℕ → List Value → Bool) (xs ys : List Entry) → AllFit marks fits xs → AllFit marks fits ys → AllFit marks fits (xs ++ ys)
fit-both marks fits [] ys h k = k
fit-both marks fits (x ∷ xs) ys h k = (h.0, fit-both marks fits xs ys h.1 k)

pub future-both : (marks : ℕ → Bool) (fits : ℕ → List Value → Bool) (place : Position) (xs ys : List Entry) → IsFuture marks fits place xs → IsFuture marks fits (after_all place xs) ys → IsFuture marks fits place (xs ++ ys)
future-both marks fits place xs ys h k = record { in_order = order-both place xs ys h.in_order k.in_order; fitting = fit-both marks fits xs ys h.fitting k.fitting }

-- with more levels an operator owns no less
pub owns-later : {O : Type 0} (m : Ghosts O) (own : Decision → Type 0) (levels levels' : LevelTable) → ((table : ℕ → ℕ → ℕ) → AgreesWith levels' table → AgreesWith levels table)
    → (o : Option (Seat O)) → holds_at (Owns m own levels) o → holds_at (Owns m own levels') o
owns-later m own levels levels' before None h = tt
owns-later m own levels levels' before (Some s) h = λ running table agrees. h running table (before table agrees)
