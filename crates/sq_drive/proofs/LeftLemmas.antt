-- What is pending of an engine, step by step, whatever it has shown before.
use Rattle.std.proofs.Common.{◌≡◌, ℕ, ◌+◌, ◌-◌, ◌<◌, List, [], ◌++◌, length, refl, ap, sym, ◌∙◌, subst, arith, append_assoc, append-nil, Option}
use Rattle.std.specs.List.{AllByRecursion}
use Rattle.sq_outside.specs.Disks.{Pages}
use Rattle.sq_outside.specs.Sinks.{AppendsPrefix}
use Rattle.sq_road.specs.Levels.{AgreesWith}
use Rattle.sq_oper.specs.declared.outs.Event.{Event}
use Rattle.sq_plan.specs.Plans.{Setting}
use Rattle.sq_plan.specs.PlanRows.{level_for}
use Rattle.sq_points.specs.Points.{points_of, drops_in}
use Rattle.sq_pool.specs.Trust.{Tells}
use Rattle.sq_actor.specs.declared.actor.Actor.{Actor}
use Rattle.sq_flow.specs.declared.flow.Flow.{Flow}
use Rattle.sq_flow.specs.declared.wires.Wires.{Wires}
use Rattle.sq_flow.specs.Events.{IsEventIn, drops_of, lines_of}
use Rattle.sq_flow.specs.Flows.{HoldsItems, Stepped, decisions_left, items_in, lines_left}
use Rattle.sq_flow.specs.Plans.{IsPlanned, plans_left, plans_of}
use Rattle.sq_flow.proofs.EventLemmas.{drops-append, lines-append, plans-append}
use Rattle.sq_flow.proofs.StepLemmas.{stepped-both}
use Rattle.sq_core.specs.declared.engine.Engine.{Engine}
use Rattle.sq_core.specs.Meanings.{actors}
use Rattle.sq_core.specs.Runs.{IsSoundEngine, NothingLeft, flow_of}
use Rattle.sq_core.proofs.RunLemmas.{shed-in, shown-in}
use Rattle.sq_drive.specs.Driving.{IsRestOf, WritesFirst}
use Rattle.sq_due.specs.Histories.{IsEventAt, history_text}
use Rattle.sq_words.proofs.Lists.{has_item}
use Rattle.sq_words.proofs.Alls.{all_append}

-- behind events that were shown
pub stepped_behind : (was is : Option Pages) (from to : Flow Actor) (es xs : List Event) → Stepped actors was is from to [] xs
    → Stepped actors was is from to es (es ++ xs)
stepped_behind was is from to es xs s = record {
  flow_after = s.flow_after;
  together = s.together;
  tells = s.tells;
  wires = s.wires;
  ahead = s.ahead;
  framed = s.framed;
  seats = s.seats;
  closes = s.closes;
  shows = λ h. all_append (IsEventIn (length from.seats.items - from.wires.shown) (from.wires.shown - from.wires.sheds)) es xs h (s.shows tt);
  planner = s.planner;
  planned = s.planned;
  plans = ap (λ l. plans_of es ++ l) s.plans ∙ sym (append_assoc (plans_of es) (plans_of xs) (plans_left to)) ∙ ap (λ l. l ++ plans_left to) (sym (plans-append es xs));
  holds = s.holds;
  goes = λ told table agrees h.
      let g = s.goes told table agrees h in
      record {
        lines = λ o low.
            let rest = lines_left actors table (items_in to is) to o in
            ap (λ l. lines_of o es ++ l) (g.lines o low) ∙ sym (append_assoc (lines_of o es) (lines_of o xs) rest) ∙ ap (λ l. l ++ rest) (sym (lines-append o es xs));
        drops = λ w low.
            let rest = decisions_left actors table (items_in to is) to (from.wires.sheds + w) in
            ap (λ l. drops_of w es ++ l) (g.drops w low) ∙ sym (append_assoc (drops_of w es) (drops_of w xs) rest) ∙ ap (λ l. l ++ rest) (sym (drops-append w es xs));
        fed = g.fed;
        lost = g.lost;
        turns = g.turns;
        arcs = g.arcs;
      };
}

-- one after another
pub stepped_then : (was mid : Option Pages) (from via : Flow Actor) (shown : List Event) → Stepped actors was mid from via [] shown
    → (is : Option Pages) (to : Flow Actor) (events : List Event) → Stepped actors mid is via to [] events → Stepped actors was is from to [] (shown ++ events)
stepped_then was mid from via shown first is to events second =
    stepped-both actors was mid from via [] shown first is to (shown ++ events) (stepped_behind mid is via to shown events second)

module _ (was is : Option Pages) (from : Engine) (sound : IsSoundEngine from) where
  output_in : (o : ℕ) → o < length from.network.outputs → (flow_of from).wires.shown + o < length (flow_of from).seats.items
  output_in o low = shown-in from.network (flow_of from) sound.laid o (omega (arith, low, sound.network.agrees.outputs))

  dropper_in : (w : ℕ) → w < drops_in from.network → (flow_of from).wires.sheds + w < (flow_of from).wires.shown
  dropper_in w low = let p = has_item (points_of from.network) w low in shed-in from.network (flow_of from) sound.laid w p.0 p.1

  module _ (to : Engine) (events : List Event) (left : Stepped actors was is (flow_of from) (flow_of to) [] events) where
    output_after : (o : ℕ) → o < length from.network.outputs → (flow_of to).wires.shown + o < length (flow_of to).seats.items
    output_after o low =
        let here = output_in o low in
        let wires = ap (λ (v : Wires). v.shown) left.wires in
        let seats = left.seats in omega (arith, here, wires, seats)

    dropper_after : (w : ℕ) → w < drops_in from.network → (flow_of from).wires.sheds + w < length (flow_of to).seats.items
    dropper_after w low =
        let here = dropper_in w low in
        let shown = sound.laid.drops in
        let all = sound.laid.operators in
        let seats = left.seats in omega (arith, here, shown, all, seats)

    -- nothing is left of the engine: all was shown
    pub rest_shown : NothingLeft (flow_of to) → IsRestOf was is from to events
    rest_shown none = record {
      plans = sym (left.plans ∙ ap (λ l. plans_of events ++ l) none.plans ∙ append-nil (plans_of events));
      lines = λ told table agrees holds o low.
          sym ((left.goes told table agrees holds).lines o (output_in o low)
          ∙ ap (λ l. lines_of o events ++ l) (none.coming.lines is table (left.holds told table agrees holds) o (output_after o low)) ∙ append-nil (lines_of o events));
      drops = λ told table agrees holds w low.
          sym ((left.goes told table agrees holds).drops w (dropper_in w low)
          ∙ ap (λ l. drops_of w events ++ l) (none.coming.drops is table (left.holds told table agrees holds) ((flow_of from).wires.sheds + w) (dropper_after w low))
          ∙ append-nil (drops_of w events));
    }

  -- steps that lead to what was known before: the first was shown, and a beginning of its text was written
  module _ (mid : Option Pages) (tells : Tells is → Tells mid) (to : Engine) (events : List Event) (left : Stepped actors was mid (flow_of from) (flow_of to) [] events) where
    pub first_shown : (before now : Option (List ℕ)) → AllByRecursion (IsEventAt from.network) events → AppendsPrefix before now (history_text from.network events)
        → WritesFirst was is from before now
    first_shown before now there written =
        let last = flow_of to in
        let table = λ (all : ℕ → List ℕ). level_for (flow_of from).planner all in
        let agrees = λ (all : ℕ → List ℕ) (planned : IsPlanned all (flow_of from)).
        subst (λ (s : Setting). AgreesWith last.levels (level_for s all)) left.planner (left.planned all planned).agrees in
        record {
          events = events;
          shown = there;
          written = written;
          plans = (plans_left last, left.plans);
          lines = λ told all planned holds o low. (
            lines_left actors (table all) (items_in last mid) last o,
            (left.goes (tells told) (table all) (agrees all planned) holds).lines o (output_in o low),
          );
          drops = λ told all planned holds w low. (
            decisions_left actors (table all) (items_in last mid) last ((flow_of from).wires.sheds + w),
            (left.goes (tells told) (table all) (agrees all planned) holds).drops w (dropper_in w low),
          );
        }
