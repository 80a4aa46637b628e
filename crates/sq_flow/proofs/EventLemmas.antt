-- What was shown.
use Rattle.std.proofs.lemmas.Bool.Decides.{nat_tests}
use Rattle.std.proofs.Common.{◌≡◌, ℕ, ◌+◌, ◌-◌, ◌<◌, ◌≤◌, arith, eqb, cond, Bool, true, false, List, [], ◌∷◌, ◌++◌, Option, Some, None, refl, ap, sym, ◌∙◌, subst, append_assoc, append-nil}
use Rattle.sq_words.specs.Lists.{IsPrefixOf}
use Rattle.sq_value.specs.declared.Tuple.{Tuple}
use Rattle.sq_item.specs.Things.{Thing}
use Rattle.sq_oper.specs.declared.outs.Event.{Event}
use Rattle.sq_oper.specs.declared.outs.Event.TheVariants.{Line}
use Rattle.sq_plan.specs.declared.closing.Shown.{Shown}
use Rattle.sq_plan.specs.PlanRows.{listed}
use Rattle.std.specs.List.{AllByRecursion}
use Rattle.sq_oper.specs.Streams.{tuples_in}
use Rattle.sq_flow.specs.Events.{line_in, lines_of, drop_in, drops_of, plan_of, IsEventIn, ShowsIn}
use Rattle.sq_flow.specs.Plans.{plan_in, plans_of}

pub stays-is : {A : Type 0} (xs ys : List A) → ys ≡ xs → IsPrefixOf xs ys
stays-is xs ys same = ([], same ∙ sym (append-nil xs))

pub lines-append : (o : ℕ) (xs ys : List Event) → lines_of o (xs ++ ys) ≡ lines_of o xs ++ lines_of o ys
lines-append o [] ys = refl
lines-append o (x ∷ xs) ys = ap (λ z. line_in o x ++ z) (lines-append o xs ys) ∙ sym (append_assoc (line_in o x) (lines_of o xs) (lines_of o ys))

pub plans-append : (xs ys : List Event) → plans_of (xs ++ ys) ≡ plans_of xs ++ plans_of ys
plans-append [] ys = refl
plans-append (x ∷ xs) ys = ap (λ z. plan_in x ++ z) (plans-append xs ys) ∙ sym (append_assoc (plan_in x) (plans_of xs) (plans_of ys))

pub drops-append : (w : ℕ) (xs ys : List Event) → drops_of w (xs ++ ys) ≡ drops_of w xs ++ drops_of w ys
drops-append w [] ys = refl
drops-append w (x ∷ xs) ys = ap (λ z. drop_in w x ++ z) (drops-append w xs ys) ∙ sym (append_assoc (drop_in w x) (drops_of w xs) (drops_of w ys))

pub drops-line : (w : ℕ) (events : List Event) (output : ℕ) (tuple : Tuple) → drops_of w (events ++ Line output tuple ∷ []) ≡ drops_of w events
drops-line w events output tuple = drops-append w events (Line output tuple ∷ []) ∙ append-nil (drops_of w events)

pub lines-push : (o output : ℕ) (events : List Event) (tuple : Tuple) → lines_of o (events ++ Line output tuple ∷ []) ≡ lines_of o events ++ cond (eqb output o) (tuple ∷ []) []
lines-push o output events tuple = lines-append o events (Line output tuple ∷ []) ∙ ap (λ z. lines_of o events ++ z) (append-nil (cond (eqb output o) (tuple ∷ []) []))

-- an output by its number among the outputs
pub output-is : (shown actor o : ℕ) (xs : List Thing) → shown ≤ actor → cond (eqb (actor - shown) o) (tuples_in xs) [] ≡ tuples_in (cond (eqb actor (shown + o)) xs [])
output-is shown actor o xs le = by (eqb (actor - shown) o) (eqb actor (shown + o)) refl refl
  where
    by : (a b : Bool) → eqb (actor - shown) o ≡ a → eqb actor (shown + o) ≡ b → cond a (tuples_in xs) [] ≡ tuples_in (cond b xs [])
    by true true e f = refl
    by false false e f = refl
    by true false e f = absurd (grind (arith, nat_tests, le, e, f))
    by false true e f = absurd (grind (arith, nat_tests, le, e, f))

-- an operator's number from where the outputs begin
pub below-outputs : (actor operators shown : ℕ) → actor < operators → actor < shown + (operators - shown)
below-outputs actor operators shown low = omega (arith, low)

pub output-below : (actor shown outputs : ℕ) → shown ≤ actor → actor < shown + outputs → actor - shown < outputs
output-below actor shown outputs shows low = omega (arith, shows, low)

-- more events, of which each is of one of so many outputs and drops
pub shows-more : (outputs limit : ℕ) (events more : List Event) → AllByRecursion (IsEventIn outputs limit) more → ShowsIn outputs limit events (events ++ more)
shows-more outputs limit [] more h all = h
shows-more outputs limit (e ∷ es) more h all = (all.0, shows-more outputs limit es more h all.1)

-- a plan that was shown, if there was one
pub plan-shown : (plan : Option Shown) (events events' : List Event) → events' ≡ events ++ plan_of plan
    → (plans_of events' ≡ plans_of events ++ listed plan) × ((o : ℕ) → lines_of o events' ≡ lines_of o events) × ((w : ℕ) → drops_of w events' ≡ drops_of w events)
    × ((outputs limit : ℕ) → ShowsIn outputs limit events events') × IsPrefixOf events events'
plan-shown plan events events' same = (
  ap plans_of same ∙ plans-append events (plan_of plan) ∙ ap (λ z. plans_of events ++ z) (listed-is plan),
  λ o. ap (lines_of o) same ∙ lines-append o events (plan_of plan) ∙ ap (λ z. lines_of o events ++ z) (none (λ l. lines_of o l ≡ []) plan refl (λ p. refl)) ∙ append-nil (lines_of o events),
  λ w. ap (drops_of w) same ∙ drops-append w events (plan_of plan) ∙ ap (λ z. drops_of w events ++ z) (none (λ l. drops_of w l ≡ []) plan refl (λ p. refl)) ∙ append-nil (drops_of w events),
  λ outputs limit. subst (ShowsIn outputs limit events) (sym same) (shows-more outputs limit events (plan_of plan) (none (AllByRecursion (IsEventIn outputs limit)) plan tt (λ p. (tt, tt)))),
  (plan_of plan, same),
)
  where
    none : (P : List Event → Type 0) (plan : Option Shown) → P [] → ((p : Shown) → P (plan_of (Some p))) → P (plan_of plan)
    none P None h k = h
    none P (Some p) h k = k p

    listed-is : (plan : Option Shown) → plans_of (plan_of plan) ≡ listed plan
    listed-is None = refl
    listed-is (Some p) = refl
