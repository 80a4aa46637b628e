-- What goes on from an actor is shown, one item or decision after another.
use Rattle.std.proofs.Common.{◌≡◌, ℕ, ◌+◌, ◌-◌, ◌<◌, ◌≤◌, eqb, cond, Bool, true, false, List, [], ◌∷◌, ◌++◌, Option, Some, None, refl, ap, sym, ◌∙◌, subst, append_assoc, append-nil, arith}
use Rattle.sq_item.specs.declared.Item.{Item}
use Rattle.sq_item.specs.declared.Mark.{Mark}
use Rattle.sq_item.specs.Things.{Thing, spread, mark_part, body_part}
use Rattle.sq_value.specs.declared.Value.{Value}
use Rattle.std.specs.List.{AllByRecursion}
use Rattle.sq_oper.specs.declared.outs.Decision.{Decision}
use Rattle.sq_oper.specs.declared.outs.Event.{Event}
use Rattle.sq_oper.specs.declared.outs.Event.TheVariants.{Line, Dropped}
use Rattle.sq_oper.specs.Outflow.{given}
use Rattle.sq_oper.proofs.GivenLemmas.{given-append}
use Rattle.sq_flow.specs.declared.wires.Wires.{Wires}
use Rattle.sq_flow.specs.Wiring.{pushed_by}
use Rattle.sq_flow.specs.Events.{item_line, lines_of, drops_of, IsEventIn, ShowsIn}
use Rattle.sq_flow.specs.Plans.{plans_of}
use Rattle.sq_flow.specs.Shows.{IsShown}
use Rattle.sq_flow.proofs.EventLemmas.{lines-append, drops-append, plans-append, shows-more, output-is, output-below}
use Rattle.sq_flow.proofs.DropLemmas.{all-split, lines-drop, drops-drop, decided-next, own-below}
use Rattle.sq_flow.proofs.FutureLemmas.{not-pushed}
use Rattle.sq_oper.specs.Streams.{tuples_in}
use Rattle.sq_words.proofs.Prefixes.{prefix_itself, prefix_along}
use Rattle.sq_oper.proofs.StreamLemmas.{tuples_append}

pushed-append : (actor : ℕ) (xs ys : List (ℕ × Item)) (from to : ℕ) → pushed_by actor (xs ++ ys) from to ≡ pushed_by actor xs from to ++ pushed_by actor ys from to
pushed-append actor xs ys from to = by (eqb actor from)
  where
    by : (b : Bool) → cond b (given to (xs ++ ys)) [] ≡ cond b (given to xs) [] ++ cond b (given to ys) []
    by true = given-append to xs ys
    by false = refl

pushed-none : (actor from to : ℕ) → pushed_by actor [] from to ≡ []
pushed-none actor from to = by (eqb actor from)
  where
    by : (b : Bool) → cond {A = List Thing} b [] [] ≡ []
    by true = refl
    by false = refl

-- nothing went on
pub shown-first : (wires : Wires) (actor : ℕ) (events : List Event) → IsShown wires actor [] [] events events
shown-first wires actor events =
    record {
      lines = λ o. sym (ap (λ z. lines_of o events ++ tuples_in z) (pushed-none actor (wires.shown + o) 0) ∙ append-nil (lines_of o events));
      decided = λ w. sym (append-nil (drops_of w events));
      plans = refl;
      below = λ outputs low own h. h;
      stay = prefix_itself events;
    }

-- what is shown at an output of an item that is given at a port
module _ (output port : ℕ) (item : Item) where
  abbrev shows : List Event
  shows = cond (eqb port 0) (item_line output item.time item.body) []

  nothing : (b : Bool) → [] ≡ cond b (tuples_in []) []
  nothing true = refl
  nothing false = refl

  shows-lines : (o : ℕ) → lines_of o shows ≡ cond (eqb output o) (tuples_in (given 0 ((port, item) ∷ []))) []
  shows-lines o = by (eqb port 0)
    where
      one : (m : Option Mark) (b : Option (List Value)) → lines_of o (item_line output item.time b) ≡ cond (eqb output o) (tuples_in ((mark_part item.time m ++ body_part item.time b) ++ [])) []
      one None None = nothing (eqb output o)
      one (Some m) None = nothing (eqb output o)
      one None (Some f) = append-nil (cond (eqb output o) (record { time = item.time; fields = f } ∷ []) [])
      one (Some m) (Some f) = append-nil (cond (eqb output o) (record { time = item.time; fields = f } ∷ []) [])

      by : (b : Bool) → lines_of o (cond b (item_line output item.time item.body) []) ≡ cond (eqb output o) (tuples_in (cond b (spread item) [] ++ [])) []
      by true = one item.mark item.body
      by false = nothing (eqb output o)

  -- what holds of each list of such lines
  of-lines : (P : List Event → Type 0) → P [] → ((f : List Value) → P (Line output (record { time = item.time; fields = f }) ∷ [])) → P shows
  of-lines P none one = by (eqb port 0) item.body
    where
      by : (b : Bool) (o : Option (List Value)) → P (cond b (item_line output item.time o) [])
      by false o = none
      by true None = none
      by true (Some f) = one f

-- an item of an output
pub shown-one : (wires : Wires) (actor port : ℕ) (item : Item) (events events' : List Event) → wires.shown ≤ actor
    → events' ≡ events ++ cond (eqb port 0) (item_line (actor - wires.shown) item.time item.body) [] → IsShown wires actor ((port, item) ∷ []) [] events events'
shown-one wires actor port item events events' shows same =
    let output = actor - wires.shown in
    let more = cond (eqb port 0) (item_line output item.time item.body) [] in
    record {
      lines = λ o. ap (lines_of o) same ∙ lines-append o events more ∙ ap (λ z. lines_of o events ++ z) (shows-lines output port item o ∙ output-is wires.shown actor o (given 0 ((port, item) ∷ [])) shows);
      decided = λ w. ap (drops_of w) same ∙ drops-append w events more ∙ ap (λ z. drops_of w events ++ z) (of-lines output port item (λ l. drops_of w l ≡ []) refl (λ f. refl));
      plans = ap plans_of same ∙ plans-append events more ∙ ap (λ z. plans_of events ++ z) (of-lines output port item (λ l. plans_of l ≡ []) refl (λ f. refl)) ∙ append-nil (plans_of events);
      below = λ outputs low own.
          subst (ShowsIn outputs (wires.shown - wires.sheds) events) (sym same)
          (shows-more outputs _ events more (of-lines output port item (AllByRecursion (IsEventIn outputs (wires.shown - wires.sheds))) tt (λ f. (output-below actor wires.shown outputs shows low, tt))));
      stay = (more, same);
    }

-- an item of another actor
pub shown-none : (wires : Wires) (actor : ℕ) (out : ℕ × Item) (events : List Event) → actor < wires.shown → IsShown wires actor (out ∷ []) [] events events
shown-none wires actor out events low =
    record {
      lines = λ o. sym (ap (λ z. lines_of o events ++ tuples_in z) (not-pushed actor (wires.shown + o) (out ∷ []) (λ e. absurd (omega (arith, low, e))) 0) ∙ append-nil (lines_of o events));
      decided = λ w. sym (append-nil (drops_of w events));
      plans = refl;
      below = λ outputs is own h. h;
      stay = prefix_itself events;
    }

-- one item more
pub shown-item : (wires : Wires) (actor : ℕ) (items : List (ℕ × Item)) (drops : List Decision) (out : ℕ × Item) (events mid events' : List Event)
    → IsShown wires actor items drops events mid → IsShown wires actor (out ∷ []) [] mid events' → IsShown wires actor (items ++ out ∷ []) drops events events'
shown-item wires actor items drops out events mid events' first next =
    record {
      lines = λ o.
          let more : ℕ → List Thing = λ from. pushed_by actor (out ∷ []) from 0 in
          next.lines o ∙ ap (λ z. z ++ tuples_in (more (wires.shown + o))) (first.lines o)
          ∙ append_assoc (lines_of o events) (tuples_in (pushed_by actor items (wires.shown + o) 0)) (tuples_in (more (wires.shown + o)))
          ∙ ap (λ z. lines_of o events ++ z)
          (sym (ap tuples_in (pushed-append actor items (out ∷ []) (wires.shown + o) 0) ∙ tuples_append (pushed_by actor items (wires.shown + o) 0) (more (wires.shown + o))));
      decided = λ w. next.decided w ∙ append-nil (drops_of w mid) ∙ first.decided w;
      plans = next.plans ∙ first.plans;
      below = λ outputs low own h. next.below outputs low tt (first.below outputs low own h);
      stay = prefix_along events mid events' first.stay next.stay;
    }

-- one decision more
pub shown-drop : (wires : Wires) (actor : ℕ) (items : List (ℕ × Item)) (drops : List Decision) (d : Decision) (events mid events' : List Event)
    → IsShown wires actor items drops events mid → events' ≡ mid ++ Dropped d ∷ [] → IsShown wires actor items (drops ++ d ∷ []) events events'
shown-drop wires actor items drops d events mid events' first same =
    record {
      lines = λ o. ap (lines_of o) same ∙ lines-drop o mid d ∙ first.lines o;
      decided = λ w. decided-next w drops d (drops_of w events) (drops_of w mid) (drops_of w events') (first.decided w) (ap (drops_of w) same ∙ drops-drop w mid d);
      plans = ap plans_of same ∙ plans-append mid (Dropped d ∷ []) ∙ append-nil (plans_of mid) ∙ first.plans;
      below = λ outputs low own h.
          let each = all-split _ drops (d ∷ []) own in
          subst (ShowsIn outputs (wires.shown - wires.sheds) mid) (sym same)
          (shows-more outputs (wires.shown - wires.sheds) mid (Dropped d ∷ []) ((own-below wires actor (d ∷ []) each.1).0, tt)) (first.below outputs low each.0 h);
      stay = prefix_along events mid events' first.stay (Dropped d ∷ [], same);
    }
