-- A step of the engine of a network, by what it is over any operators: of its flow as it is known, and with whatever may come behind that.
use Rattle.std.proofs.Common.{◌≡◌, ℕ, zero, suc, ◌+◌, ◌-◌, ◌<◌, ◌≤◌, true, List, ◌++◌, length, Option, Some, Vec, slice_get, ap, sym, ◌∙◌, subst, arith, append_assoc}
use Rattle.std.specs.List.{AllByRecursion}
use Rattle.std.specs.declared.alloc.Global.{Global}
use Rattle.sq_words.specs.Lists.{IsPrefixOf}
use Rattle.sq_plan.specs.PlanRows.{level_for}
use Rattle.sq_outside.specs.Disks.{DiskLog, Pages}
use Rattle.sq_road.specs.Levels.{AgreesWith}
use Rattle.sq_oper.specs.declared.outs.Event.{Event}
use Rattle.sq_place.specs.declared.DropPoint.{DropPoint}
use Rattle.sq_points.specs.Points.{points_of, drops_in}
use Rattle.std.proofs.lemmas.Option.{slice_get_within}
use Rattle.sq_net.specs.declared.Network.{Network}
use Rattle.sq_net.specs.SoundNetworks.{IsSound}
use Rattle.sq_model.specs.Shedding.{Replay, counts_in, batch_level}
use Rattle.sq_pool.specs.Trust.{Tells, known}
use Rattle.sq_sched.specs.declared.policy.Pick.{Pick}
use Rattle.sq_actor.specs.declared.actor.Actor.{Actor}
use Rattle.sq_flow.specs.declared.flow.Flow.{Flow}
use Rattle.sq_flow.specs.declared.steps.Progress.{Progress}
use Rattle.sq_flow.specs.declared.errors.RunErr.{RunErr}
use Rattle.sq_flow.specs.Events.{lines_of, drops_of, IsEventIn}
use Rattle.sq_flow.specs.declared.wires.Wires.{Wires}
use Rattle.sq_flow.specs.Wiring.{arcs_read}
use Rattle.sq_item.specs.declared.Item.{Item}
use Rattle.sq_flow.specs.Flows.{items_in, lines_left, decisions_left, fed_at_last, Stepped, CostsFed, sum_below}
use Rattle.sq_flow.specs.Plans.{plans_of, plans_left}
use Rattle.sq_flow.specs.Seats.{taken_at}
use Rattle.sq_flow.specs.Stepping.{Stage, FallsShort, StepErr, StepsTo, stage_on}
use Rattle.sq_flow.specs.EngineSteps.{EngineOk}
use Rattle.sq_flow.specs.Tails.{Tails, AreTails, Fits, with_tails}
use Rattle.sq_core.specs.declared.engine.Engine.{Engine}
use Rattle.sq_core.specs.Meanings.{actors}
use Rattle.sq_start.specs.Numbers.{first_output, ops_of}
use Rattle.sq_core.specs.Answers.{Plans, KeepsAnswers}
use Rattle.sq_core.specs.Runs.{IsLaidFor, IsRun, IsRunOn, IsSoundEngine, RunsFlow, ShownSoFar, Stopped, flow_of}
use Rattle.sq_core.specs.Steps.{RunFails, RunsOn}
use Rattle.sq_flow.proofs.EventLemmas.{lines-append, plans-append, drops-append}
use Rattle.sq_flow.proofs.DoneLemmas.{sums-agree}

-- what was shown before goes in front, of what takes parts of events one by one
module _ {A : Type 0} (of : List Event → List A) (append : (xs ys : List Event) → of (xs ++ ys) ≡ of xs ++ of ys) where
  after : (history xs : List Event) (left : List A) → of (history ++ xs) ++ left ≡ of history ++ (of xs ++ left)
  after history xs left = ap (λ l. l ++ left) (append history xs) ∙ append_assoc (of history) (of xs) left

  in-front : (history xs ys : List Event) (left left' : List A) → of xs ++ left ≡ of ys ++ left' → of (history ++ xs) ++ left ≡ of (history ++ ys) ++ left'
  in-front history xs ys left left' same = after history xs left ∙ ap (λ l. of history ++ l) same ∙ sym (after history ys left')

  prefix-in-front : (history xs ys : List Event) (left : List A) → IsPrefixOf (of ys) (of xs ++ left) → IsPrefixOf (of (history ++ ys)) (of (history ++ xs) ++ left)
  prefix-in-front history xs ys left h = (h.0, after history xs left ∙ ap (λ l. of history ++ l) h.1 ∙ sym (after history ys h.0))

-- the levels of the closed epochs are those of the replay
pub agrees-of : (r : Replay) (flow : Flow Actor) (history : List Event) → Plans r flow history → AgreesWith flow.levels (batch_level r)
agrees-of r flow history plans = subst (λ s. AgreesWith flow.levels (level_for s (counts_in r))) plans.setting plans.planned.agrees

-- ---- how a flow lies

-- an output, a drop and a box is an operator
module _ (n : Network) (flow : Flow Actor) (laid : IsLaidFor n flow) where
  pub shown-in : (output : ℕ) → output < length n.wires.outputs → flow.wires.shown + output < length flow.seats.items
  shown-in output low = (let first = laid.drops in let all = laid.operators in omega (arith, low, first, all))

  pub shed-in : (w : ℕ) (p : DropPoint) → slice_get (points_of n) w ≡ Some p → flow.wires.sheds + w < flow.wires.shown
  shed-in w p there =
      let low = slice_get_within (points_of n) w p there in
      let boxes = laid.boxes in
      let first = laid.drops in
      omega (arith, low, boxes, first)

  pub box-in : (at : ℕ) → at < length n.boxes → at < length flow.seats.items
  box-in at low = (let all = laid.operators in omega (arith, low, all))

  -- it does with whatever comes
  pub laid-on : (tails : Tails) → IsLaidFor n (with_tails tails flow)
  laid-on tails = record { boxes = laid.boxes; drops = laid.drops; operators = laid.operators }

  laid-after : (was is : Option Pages) (flow' : Flow Actor) (events events' : List Event) → Stepped actors was is flow flow' events events' → IsLaidFor n flow'
  laid-after was is flow' events events' stepped =
      record { boxes = ap (λ w. w.sheds) stepped.wires ∙ laid.boxes; drops = ap (λ w. w.shown) stepped.wires ∙ laid.drops; operators = stepped.seats ∙ laid.operators }

-- ---- a flow at work on a replay

module _ (before after : Stage Actor) (r : Replay) (laid : IsLaidFor r.network before.flow) (history : List Event) where
  abbrev left_before : ℕ → List Item
  left_before = items_in before.flow (known before.log)

  abbrev left_after : ℕ → List Item
  left_after = items_in after.flow (known after.log)

  -- a step that ended Ok
  module _ (stepped : StepsTo actors before after) where
    plans-after : Plans r before.flow (history ++ before.events) → Plans r after.flow (history ++ after.events)
    plans-after plans =
        record {
          setting = stepped.planner ∙ plans.setting;
          planned = stepped.planned (counts_in r) plans.planned;
          shown = sym (in-front plans_of plans-append history before.events after.events (plans_left before.flow) (plans_left after.flow) stepped.plans) ∙ plans.shown;
        }

    answers-after : Tells (known after.log) → AgreesWith after.flow.levels (batch_level r)
        → KeepsAnswers r left_before before.flow (history ++ before.events) → KeepsAnswers r left_after after.flow (history ++ after.events)
    answers-after told agrees a =
        let table = batch_level r in
        let goes = stepped.goes told table agrees a.holds in
        record {
          holds = stepped.holds told table agrees a.holds;
          lines = λ output low.
              sym (in-front (lines_of output) (lines-append output) history before.events after.events (lines_left actors table left_before before.flow output) (lines_left actors table left_after after.flow output)
              (goes.lines output (shown-in r.network before.flow laid output low)))
              ∙ a.lines output low;
          drops = λ w p there.
              let k = ap (λ v. v.sheds) stepped.wires in
              ap (λ z. drops_of w (history ++ after.events) ++ decisions_left actors table left_after after.flow (z + w)) k
              ∙ sym (in-front (drops_of w) (drops-append w) history before.events after.events (decisions_left actors table left_before before.flow (before.flow.wires.sheds + w))
              (decisions_left actors table left_after after.flow (before.flow.wires.sheds + w)) (goes.drops w (shed-in r.network before.flow laid w p there)))
              ∙ a.drops w p there;
          fed = λ at low. sym (goes.fed at (box-in r.network before.flow laid at low)) ∙ a.fed at low;
          late = λ at low. sym (goes.lost at (box-in r.network before.flow laid at low)) ∙ a.late at low;
          work =
              ap (sum_below (fed_at_last actors table left_after after.flow)) stepped.seats
              ∙ sym (sums-agree (fed_at_last actors table left_before before.flow) (fed_at_last actors table left_after after.flow) (length before.flow.seats.items) goes.fed)
              ∙ a.work;
          turns = (let same = goes.turns in let most = a.turns in omega (arith, same, most));
          arcs = λ actor port giver low reads.
              let left = a.arcs actor port giver low reads in
              record {
                arc = left.arc;
                there = ap (λ (w : Wires). slice_get (arcs_read w actor) port) stepped.wires ∙ left.there;
                whole = sym (goes.arcs actor port left.arc left.there) ∙ left.whole;
              };
        }

    flow-after : CostsFed actors before.flow after.flow before.steps after.steps → (begun : ℕ)
        → RunsFlow r (known before.log) before.flow (history ++ before.events) begun before.steps → RunsFlow r (known after.log) after.flow (history ++ after.events) begun after.steps
    flow-after cost begun run =
        let plans = plans-after run.plans in
        record {
          read = run.read;
          counted = (let counted = run.counted in omega (arith, counted, cost));
          plans = plans;
          answers = λ told. answers-after told (agrees-of r after.flow (history ++ after.events) plans) (run.answers (stepped.tells told));
        }

  -- a step that failed
  flow-stopped : (e : RunErr) → FallsShort actors before after e → (Tells (known after.log) → Tells (known before.log)) → Tells (known after.log) → (begun : ℕ)
      → RunsFlow r (known before.log) before.flow (history ++ before.events) begun before.steps → Stopped before.log.honest r (history ++ after.events) begun after.steps e
  flow-stopped e short tells told begun run =
      let table = batch_level r in
      let a = run.answers (tells told) in
      let agrees : AgreesWith after.flow.levels table = subst (λ s. AgreesWith after.flow.levels (level_for s (counts_in r))) run.plans.setting (short.plans.agrees (counts_in r) run.plans.planned) in
      let begins = short.prefix told table agrees a.holds in
      record {
        so_far = record {
          lines = λ output low.
              subst (IsPrefixOf (lines_of output (history ++ after.events))) (a.lines output low)
              (prefix-in-front (lines_of output) (lines-append output) history before.events after.events (lines_left actors table left_before before.flow output)
              (begins.lines output (shown-in r.network before.flow laid output low)));
          drops = λ w p there.
              subst (IsPrefixOf (drops_of w (history ++ after.events))) (a.drops w p there)
              (prefix-in-front (drops_of w) (drops-append w) history before.events after.events (decisions_left actors table left_before before.flow (before.flow.wires.sheds + w))
              (begins.drops w (shed-in r.network before.flow laid w p there)));
          plans = subst (IsPrefixOf (plans_of (history ++ after.events))) run.plans.shown (prefix-in-front plans_of plans-append history before.events after.events (plans_left before.flow) short.plans.shown);
          work = (let most = short.cost told table agrees a.holds in let all = a.work in let counted = run.counted in omega (arith, most, all, counted));
        };
        named = short.strange told table agrees a.holds;
        turns = λ is-much. (let most = short.too_much.turns is-much told table agrees a.holds in let all = a.turns in omega (arith, most, all));
      }

sum-less : (f g : ℕ → ℕ) (n : ℕ) → ((i : ℕ) → f i ≤ g i) → sum_below f n ≤ sum_below g n
sum-less f g zero h = omega arith
sum-less f g (suc n) h = (let here = h n in let more = sum-less f g n h in omega (arith, here, more))

-- at any time
flow-so-far : (flow : Flow Actor) (r : Replay) (pages : Option Pages) (history : List Event) (begun steps : ℕ) → Tells pages → RunsFlow r pages flow history begun steps → ShownSoFar r history begun steps
flow-so-far flow r pages history begun steps told run =
    let a = run.answers told in
    let items = items_in flow pages in
    record {
      lines = λ output low. (lines_left actors (batch_level r) items flow output, sym (a.lines output low));
      drops = λ w p there. (decisions_left actors (batch_level r) items flow (flow.wires.sheds + w), sym (a.drops w p there));
      plans = (plans_left flow, sym run.plans.shown);
      work =
          let less = sum-less (λ actor. taken_at actors (slice_get flow.seats.items actor)) (fed_at_last actors (batch_level r) items flow) (length flow.seats.items) (λ i. omega arith) in
          let all = a.work in
          let counted = run.counted in
          omega (arith, less, all, counted);
    }

-- ---- an engine at work

-- what may come still may come behind a step
pub fits-after : (was is : Option Pages) (flow flow' : Flow Actor) (events events' : List Event) → Stepped actors was is flow flow' events events' → (tails : Tails) → Fits actors tails flow
    → Stepped actors was is (with_tails tails flow) (with_tails tails flow') events events' → Fits actors tails flow'
fits-after was is flow flow' events events' stepped tails fits on =
    record { may = subst (λ (v : Vec (Option ℕ) Global). AreTails v.items tails) (sym stepped.ahead) fits.may; keeps = on.flow_after }

-- the engine of a run lies as its network says
pub laid-of : (e : Engine) (n : Network) → e.network ≡ n → IsSoundEngine e → IsLaidFor n (flow_of e)
laid-of e n given sound = subst (λ k. IsLaidFor k (flow_of e)) given sound.laid

module _ (e e' : Engine) (was is : DiskLog) (faults faults' : ℕ) (events events' : List Event) (steps steps' : ℕ) where
  abbrev from : Stage Actor
  from = record { flow = flow_of e; log = was; faults = faults; events = events; steps = steps }

  abbrev to : Stage Actor
  to = record { flow = flow_of e'; log = is; faults = faults'; events = events'; steps = steps' }

  -- what a step shows is shown at outputs of the network, or decided by its drops, or planned
  shows-after : StepsTo actors from to → IsSoundEngine e → AllByRecursion (IsEventIn (length e.network.outputs) (drops_in e.network)) events → AllByRecursion (IsEventIn (length e.network.outputs) (drops_in e.network)) events'
  shows-after stepped sound =
      let flow = flow_of e in
      let boxes = sound.laid.boxes in
      let first = sound.laid.drops in
      let all = sound.laid.operators in
      let outputs = sound.network.agrees.outputs in
      let many : length flow.seats.items - flow.wires.shown ≡ length e.network.outputs = omega (arith, first, all, outputs) in
      let drops : flow.wires.shown - flow.wires.sheds ≡ drops_in e.network = omega (arith, first, boxes) in
      subst (λ k. AllByRecursion (IsEventIn k (drops_in e.network)) events → AllByRecursion (IsEventIn k (drops_in e.network)) events') many
      (subst (λ k. AllByRecursion (IsEventIn (length flow.seats.items - flow.wires.shown) k) events → AllByRecursion (IsEventIn (length flow.seats.items - flow.wires.shown) k) events') drops stepped.shows)

  pub runs-on : e'.network ≡ e.network → IsSoundEngine e → (pick : Pick) (p : Progress) → EngineOk actors pick from to e.engine e'.engine p → RunsOn pick from to e e' p
  runs-on same sound pick p ok =
      let moves = ok.train.moves in
      let sound-after : IsSoundEngine e' = record {
        network = subst IsSound (sym same) sound.network;
        laid = subst (λ n. IsLaidFor n (flow_of e')) (sym same) (laid-after e.network (flow_of e) sound.laid (known was) (known is) (flow_of e') events events' moves.stepped);
        engine = ok.engine;
      } in
      record {
        step = ok;
        sound = sound-after;
        run = λ r history begun run. record {
          network = same ∙ run.network;
          sound = sound-after;
          together = moves.stepped.together;
          at = flow-after from to r (laid-of e r.network run.network run.sound) history moves.stepped moves.cost begun run.at;
        };
        run_on = λ r tails history begun run. record {
          network = same ∙ run.network;
          sound = sound-after;
          fits = fits-after (known was) (known is) (flow_of e) (flow_of e') events events' moves.stepped tails run.fits (moves.on tails run.fits);
          together = moves.stepped.together;
          at = flow-after (stage_on tails from) (stage_on tails to) r (laid-on r.network (flow_of e) (laid-of e r.network run.network run.sound) tails) history (moves.on tails run.fits) moves.cost begun run.at;
        };
        shows = shows-after moves.stepped sound;
      }

  pub run-fails : (err : RunErr) → StepErr actors from to err → e'.engine.failed ≡ true → RunFails from to e e' err
  run-fails err failed has-failed =
      record {
        step = failed;
        failed = has-failed;
        stopped = λ told r history begun run.
            flow-stopped from to r (laid-of e r.network run.network run.sound) history err failed.short failed.keeps.later.known told begun run.at;
        stopped_on = λ told r tails history begun run.
            flow-stopped (stage_on tails from) (stage_on tails to) r (laid-on r.network (flow_of e) (laid-of e r.network run.network run.sound) tails) history err (failed.on tails run.fits)
            failed.keeps.later.known told begun run.at;
      }

module _ (e : Engine) (r : Replay) where
  pub shown-so-far : (pages : Option Pages) (history : List Event) (begun steps : ℕ) → Tells pages → IsRun r pages e history begun steps → ShownSoFar r history begun steps
  shown-so-far pages history begun steps told run = flow-so-far (flow_of e) r pages history begun steps told run.at

  pub shown-so-far-on : (tails : Tails) (pages : Option Pages) (history : List Event) (begun steps : ℕ) → Tells pages → IsRunOn r tails pages e history begun steps → ShownSoFar r history begun steps
  shown-so-far-on tails pages history begun steps told run = flow-so-far (with_tails tails (flow_of e)) r pages history begun steps told run.at
