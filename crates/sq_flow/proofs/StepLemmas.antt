-- Steps, one after another.
use Rattle.std.proofs.Common.{◌≡◌, ℕ, ◌+◌, ◌-◌, ◌<◌, ◌++◌, Bool, true, false, ◌||◌, List, length, Option, Some, None, refl, ap, sym, ◌∙◌, subst, arith}
use Rattle.std.specs.Prelude.{is_some, slice_get}
use Rattle.sq_outside.specs.Disks.{Pages}
use Rattle.sq_road.specs.Levels.{LevelTable, AgreesWith}
use Rattle.sq_oper.specs.declared.operator.Operator.{Ghosts}
use Rattle.sq_oper.specs.declared.outs.Event.{Event}
use Rattle.sq_pool.specs.Trust.{Tells}
use Rattle.sq_queue.specs.Faces.{face, Together}
use Rattle.sq_flow.specs.declared.wires.Wires.{Wires}
use Rattle.sq_flow.specs.declared.flow.Flow.{Flow}
use Rattle.sq_flow.specs.declared.errors.RunErr.{RunErr}
use Rattle.sq_heads.specs.declared.Next.TheVariants.{Waits}
use Rattle.sq_flow.specs.Wiring.{arcs_read}
use Rattle.sq_heads.specs.Heads.{NextUpTo}
use Rattle.sq_flow.specs.Events.{drops_of, ShowsIn}
use Rattle.sq_flow.specs.Plans.{PlansPrefix, plans_of}
use Rattle.sq_plan.specs.Plans.{Setting}
use Rattle.sq_plan.specs.PlanRows.{level_for}
use Rattle.sq_words.specs.Lists.{IsPrefixOf}
use Rattle.sq_flow.specs.Flows.{IsFlow, HoldsItems, Stepped, ShowsPrefix, NoneStrange, CostsFed, StepCosts, TooMuchOnly, items_in, decisions_left, fed_at_last, sum_below, work_at_last}
use Rattle.sq_flow.proofs.CauseLemmas.{changed-since}
use Rattle.sq_flow.specs.Readiness.{IsReady}
use Rattle.sq_flow.proofs.DoneLemmas.{sums-agree}

module _ {O : Type 0} (m : Ghosts O) where
  -- nothing was done
  pub stepped-none : (p : Option Pages) (f : Flow O) (e : List Event) → IsFlow m f → Together f.queues p → Stepped m p p f f e e
  stepped-none p f e flow together =
      record {
        flow_after = flow;
        together = together;
        tells = λ told. told;
        wires = refl;
        ahead = refl;
        framed = refl;
        seats = refl;
        closes = λ table agrees. agrees;
        shows = λ h. h;
        planner = refl;
        planned = λ all h. h;
        plans = refl;
        holds = λ told table agrees h. h;
        goes = λ told table agrees h.
            record {
              lines = λ output low. refl;
              drops = λ w low. refl;
              fed = λ actor low. refl;
              lost = λ actor low. refl;
              turns = refl;
              arcs = λ actor port arc reads. refl;
            };
      }

  module _ (p p1 : Option Pages) (f f1 : Flow O) (e e1 : List Event) (first : Stepped m p p1 f f1 e e1) where
    outputs-same : length f1.seats.items - f1.wires.shown ≡ length f.seats.items - f.wires.shown
    outputs-same = rw (first.seats, ap (λ (w : Wires). w.shown) first.wires) refl

    drops-same : f1.wires.shown - f1.wires.sheds ≡ f.wires.shown - f.wires.sheds
    drops-same = ap (λ (w : Wires). w.shown - w.sheds) first.wires

    low-after : (output : ℕ) → f.wires.shown + output < length f.seats.items → f1.wires.shown + output < length f1.seats.items
    low-after output low = rw (first.seats, ap (λ (w : Wires). w.shown) first.wires) low

    pub stepped-both : (p2 : Option Pages) (f2 : Flow O) (e2 : List Event) → Stepped m p1 p2 f1 f2 e1 e2 → Stepped m p p2 f f2 e e2
    stepped-both p2 f2 e2 second =
        record {
          flow_after = second.flow_after;
          together = second.together;
          tells = λ told. first.tells (second.tells told);
          wires = second.wires ∙ first.wires;
          ahead = second.ahead ∙ first.ahead;
          framed = second.framed ∙ first.framed;
          seats = second.seats ∙ first.seats;
          closes = λ table h. first.closes table (second.closes table h);
          shows = λ h. subst (λ n. ShowsIn n (f.wires.shown - f.wires.sheds) e1 e2) outputs-same (subst (λ n. ShowsIn (length f1.seats.items - f1.wires.shown) n e1 e2) drops-same second.shows) (first.shows h);
          planner = second.planner ∙ first.planner;
          planned = λ all h. second.planned all (first.planned all h);
          plans = first.plans ∙ second.plans;
          holds = λ told table agrees h. second.holds told table agrees (first.holds (second.tells told) table (second.closes table agrees) h);
          goes = λ told table agrees h.
              let a = first.goes (second.tells told) table (second.closes table agrees) h in
              let b = second.goes told table agrees (first.holds (second.tells told) table (second.closes table agrees) h) in
              record {
                lines = λ output low. a.lines output low ∙ b.lines output (low-after output low);
                drops = λ w low. a.drops w low
                    ∙ subst (λ (wires : Wires). wires.sheds + w < wires.shown → drops_of w e1 ++ decisions_left m table (items_in f1 p1) f1 (wires.sheds + w) ≡ drops_of w e2 ++ decisions_left m table (items_in f2 p2) f2 (wires.sheds + w))
                    first.wires (b.drops w) low;
                fed = λ actor low. a.fed actor low ∙ b.fed actor (rw first.seats low);
                lost = λ actor low. a.lost actor low ∙ b.lost actor (rw first.seats low);
                turns = a.turns ∙ b.turns;
                arcs = λ actor port arc reads.
                    a.arcs actor port arc reads ∙ b.arcs actor port arc (subst (λ (w : Wires). slice_get (arcs_read w actor) port ≡ Some arc) (sym first.wires) reads);
              };
        }

    pub prefix-after : (p2 : Option Pages) (levels : LevelTable) (e2 : List Event) → (Tells p2 → Tells p1) → ((table : ℕ → ℕ → ℕ) → AgreesWith levels table → AgreesWith f1.levels table)
        → ShowsPrefix m p1 p2 f1 levels e1 e2 → ShowsPrefix m p p2 f levels e e2
    prefix-after p2 levels e2 tells closes pre = λ told table agrees h.
        let a = first.goes (tells told) table (closes table agrees) h in
        let b = pre told table agrees (first.holds (tells told) table (closes table agrees) h) in
        record {
          lines = λ output low. rw (a.lines output low) (b.lines output (low-after output low));
          drops = λ w low. rw (a.drops w low)
              (subst (λ (wires : Wires). wires.sheds + w < wires.shown → IsPrefixOf (drops_of w e2) (drops_of w e1 ++ decisions_left m table (items_in f1 p1) f1 (wires.sheds + w))) first.wires (b.drops w) low);
        }

    pub plans-after : (levels : LevelTable) (e2 : List Event) → PlansPrefix f1 levels e1 e2 → PlansPrefix f levels e e2
    plans-after levels e2 pre =
        record {
          shown = subst (IsPrefixOf (plans_of e2)) (sym first.plans) pre.shown;
          agrees = λ all h. subst (λ (s : Setting). AgreesWith levels (level_for s all)) first.planner (pre.agrees all (first.planned all h));
        }

    -- as much work is left in all as before
    work-same : Tells p1 → (table : ℕ → ℕ → ℕ) → AgreesWith f1.levels table → HoldsItems m table (items_in f p) f
        → work_at_last m table (items_in f p) f ≡ work_at_last m table (items_in f1 p1) f1
    work-same told table agrees h =
        sums-agree (fed_at_last m table (items_in f p) f) (fed_at_last m table (items_in f1 p1) f1) (length f.seats.items) ((first.goes told table agrees h).fed)
        ∙ ap (sum_below (fed_at_last m table (items_in f1 p1) f1)) (sym first.seats)

    pub costs-after : (f2 : Flow O) (before mid after : ℕ) → CostsFed m f f1 before mid → CostsFed m f1 f2 mid after → CostsFed m f f2 before after
    costs-after f2 before mid after a b = omega (arith, a, b)

    pub costs-most-after : (p2 : Option Pages) (levels : LevelTable) (before mid after : ℕ) → (Tells p2 → Tells p1) → ((table : ℕ → ℕ → ℕ) → AgreesWith levels table → AgreesWith f1.levels table)
        → CostsFed m f f1 before mid → StepCosts m p1 p2 f1 levels mid after → StepCosts m p p2 f levels before after
    costs-most-after p2 levels before mid after tells closes a b = λ told table agrees h.
        let same = work-same (tells told) table (closes table agrees) h in
        let most = b told table agrees (first.holds (tells told) table (closes table agrees) h) in
        omega (arith, a, same, most)

    pub too-much-after : (p2 : Option Pages) (f2 : Flow O) (e2 : RunErr) → (Tells p2 → Tells p1) → ((table : ℕ → ℕ → ℕ) → AgreesWith f2.levels table → AgreesWith f1.levels table) → TooMuchOnly m p1 p2 f1 f2 e2 → TooMuchOnly m p p2 f f2 e2
    too-much-after p2 f2 e2 tells closes only =
        record {
          counted = only.counted;
          turns = λ is told table agrees h.
              rw ((first.goes (tells told) table (closes table agrees) h).turns) (only.turns is told table agrees (first.holds (tells told) table (closes table agrees) h));
        }

    pub none-strange-after : (was now : Bool) (p2 : Option Pages) (levels : LevelTable) (e2 : RunErr) → now ≡ was → (Tells p2 → Tells p1) → ((table : ℕ → ℕ → ℕ) → AgreesWith levels table → AgreesWith f1.levels table)
        → NoneStrange m now p1 p2 f1 levels e2 → NoneStrange m was p p2 f levels e2
    none-strange-after was now p2 levels e2 same tells closes none = λ told table agrees h. changed-since was now e2 same (none told table agrees (first.holds (tells told) table (closes table agrees) h))

-- an operator that waits for an arc isn't ready
pub waits-not-ready : {O : Type 0} (f : Flow O) (actor : ℕ)
    → NextUpTo (arcs_read f.wires actor) (λ a. (face f.queues a).first) (λ a. (face f.queues a).ended) (length (arcs_read f.wires actor)) Waits → IsReady f actor → ⊥
waits-not-ready f actor h ready =
    let s = ready.standing h.0 h.1 h.3 in
    by (face f.queues h.1).first (face f.queues h.1).ended h.4 h.5 s
  where
    by : (o : Option ℕ) (b : Bool) → o ≡ None → b ≡ false → (is_some o || b) ≡ true → ⊥
    by None true n b s = cc b
    by None false n b s = cc s
    by (Some t) b n k s = cc n
