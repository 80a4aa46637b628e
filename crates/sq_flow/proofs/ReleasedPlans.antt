-- What the release of a tuple leaves of the plans.
use Rattle.std.proofs.Common.{◌≡◌, ◌≢◌, ℕ, ◌+◌, ◌-◌, ◌/◌, ◌≤◌, ◌<◌, ◌^◌, max, eqb, cond, Bool, true, false, List, [], ◌∷◌, ◌++◌, length, set, replicate, Some, refl, ap, sym, ◌∙◌, subst, append_assoc, arith}
use Rattle.std.specs.Prelude.{slice_get, slice_index, Vec}
use Rattle.std.specs.List.{flat_map, range_with_len}
use Rattle.std.proofs.lemmas.List.{length-replicate}
use Rattle.std.specs.declared.alloc.Global.{Global}
use Rattle.sq_value.specs.declared.Tuple.{Tuple}
use Rattle.sq_left.proofs.MergeLemmas.{eqb-no, eqb-not}
use Rattle.sq_road.specs.Levels.{LevelTable, level_of, AgreesWith}
use Rattle.sq_plan.specs.declared.closing.Shown.{Shown}
use Rattle.sq_plan.specs.Plans.{Setting}
use Rattle.sq_plan.specs.PlanRows.{is_quiet, level_for, shown_from, shown_after, Ended}
use Rattle.sq_oper.specs.declared.operator.Operator.{Ghosts}
use Rattle.sq_oper.specs.declared.outs.Event.{Event}
use Rattle.sq_oper.specs.Streams.{IsSoundTuple}
use Rattle.sq_queue.specs.declared.Queues.{Queues}
use Rattle.sq_replay.specs.RecordedTuples.{Recorded}
use Rattle.sq_flow.specs.declared.flow.Flow.{Flow}
use Rattle.sq_flow.specs.Closes.{ClosesSome, ClosesAll}
use Rattle.sq_flow.specs.Flows.{IsFlow, RiseFrom, tuples_to_come, to_release}
use Rattle.sq_plan.specs.Arrivals.{arrivals}
use Rattle.sq_flow.specs.Plans.{last_arrival, add_counts, counts_of, IsPlanned, plans_left, plans_of, PlansPrefix}
use Rattle.sq_flow.specs.Sources.{BeginsLeast, IsNextSource}
use Rattle.sq_flow.proofs.PlanLemmas.{div-low, plans-cut, streams, rise-later, add-zeros, zeros-more, arrivals-len, quiet-zeros, none-arrive, arrivals-other, counted-one, last-taken}
use Rattle.std.proofs.lemmas.Map.Views.{exact_unsigned_eq}
use Rattle.sq_words.proofs.Lists.{zeros_at}
use Rattle.sq_words.proofs.Numbers.{eqb_true}

-- all epochs before this one were closed, and the plan that follows was shown
pub record ClosedBefore (planner planner' : Setting) (levels levels' : LevelTable) (before after : List ℕ) (next : ℕ) (events events' : List Event) : Type 0 where
  pub some : ClosesSome planner planner' levels levels' before next events events'
  pub all : ClosesAll planner levels levels' before after next events events'

-- a table that agrees with more closed levels agrees with fewer
pub agrees-before : (levels levels' : LevelTable) → ((x w : ℕ) → x < levels.closed → level_of levels' x w ≡ level_of levels x w) → levels.closed ≤ levels'.closed
    → (table : ℕ → ℕ → ℕ) → AgreesWith levels' table → AgreesWith levels table
agrees-before levels levels' keeps grows table h epoch drop low = h epoch drop (omega (arith, low, grows)) ∙ keeps epoch drop low

-- counts that stay or begin anew are as many as before, and none is more
pub closed-len : (stays : Bool) (before after : List ℕ) → after ≡ cond stays before (replicate (length before) 0) → length after ≡ length before
closed-len true before after h = ap (λ (l : List ℕ). length l) h
closed-len false before after h = ap (λ (l : List ℕ). length l) h ∙ length-replicate (length before) 0

pub closed-low : (stays : Bool) (before after : List ℕ) → after ≡ cond stays before (replicate (length before) 0) → (k : ℕ) → slice_index after k ≤ slice_index before k
closed-low true before after h k = let same = ap (λ l. slice_index l k) h in omega (arith, same)
closed-low false before after h k = let none = ap (λ l. slice_index l k) h ∙ zeros_at (length before) k in omega (arith, none)

module _ {O : Type 0} (m : Ghosts O) (e : Flow O) (flow : IsFlow m e) (pos : 0 < e.levels.epoch)
    (port : ℕ) (v more : Recorded) (x : Tuple) (least : IsNextSource e.sources.items port)
    (at : slice_get e.sources.items port ≡ Some v) (front : v.items ≡ x ∷ more.items) where
  abbrev pub epoch_there : ℕ
  epoch_there = x.time / e.levels.epoch

  abbrev open_epoch : ℕ
  open_epoch = e.levels.closed - 1

  abbrev shown : List Shown
  shown = flat_map (shown_after e.planner (counts_of e)) (range_with_len open_epoch (epoch_there - open_epoch))

  abbrev arrive : List ℕ
  arrive = arrivals e.levels.epoch (streams e.sources.items) epoch_there

  begins : to_release e port ≡ x ∷ more.items
  begins = ap tuples_to_come at ∙ front

  pub sound : IsSoundTuple x
  sound = (subst (RiseFrom e.clock) begins (flow.replay.coming port)).1

  -- the tuple comes no earlier than what was released, and no later than all that is still to be
  pub in-time : (e.clock ≤ x.time) × (x.time < 2 ^ 40)
  in-time = let r = subst (RiseFrom e.clock) begins (flow.replay.coming port) in (r.0, r.1.0)

  rise : (source : ℕ) → RiseFrom x.time (to_release e source)
  rise source = rise-later e.clock x.time (to_release e source) (flow.replay.coming source) (none-before.0 source)
    where
      none-before : BeginsLeast e.sources.items port (x ∷ more.items)
      none-before = subst (BeginsLeast e.sources.items port) begins least.least

  pub not-before : e.levels.closed ≤ epoch_there + 1
  not-before =
      let low = div-low e.clock x.time e.levels.epoch pos in-time.0 in
      let is = flow.levels.0 in
      omega (arith, low, is)

  none-between : (y : ℕ) → y < epoch_there → arrivals e.levels.epoch (streams e.sources.items) y ≡ replicate (length e.sources.items) 0
  none-between y low = none-arrive e.levels.epoch y pos x.time e.sources.items low rise

  -- where the tuple is of a later epoch, no more come of the epoch that is open, and none between
  pub is-ended : (all : ℕ → List ℕ) → ((y : ℕ) → e.levels.closed ≤ y + 1 → all y ≡ counts_of e y) → e.levels.closed < epoch_there + 1 → Ended all (e.levels.closed - 1) epoch_there e.counts.items
  is-ended all counts later =
      record {
        last = counts open_epoch (omega arith) ∙ ap (λ b. add_counts (cond b e.counts.items []) (arrivals e.levels.epoch (streams e.sources.items) open_epoch)) (eqb_true (open_epoch + 1) e.levels.closed (omega (arith, some)))
            ∙ ap (add_counts e.counts.items) (none-between open_epoch (omega (arith, some, later))) ∙ zeros-more e.counts.items (length e.sources.items) flow.replay.counted;
        between = λ y from upto.
            ap is_quiet (counts y (omega (arith, from)) ∙ ap (λ b. add_counts (cond b e.counts.items []) (arrivals e.levels.epoch (streams e.sources.items) y)) (eqb-not (y + 1) e.levels.closed (omega (arith, some, from)))
            ∙ none-between y upto) ∙ quiet-zeros (length e.sources.items);
      }
    where
      some : 0 < e.levels.closed
      some = let is = flow.levels.0 in omega (arith, is)

  module _ (planner' : Setting) (levels' : LevelTable) (mid : List ℕ) (events events' : List Event)
      (did : ClosedBefore e.planner planner' e.levels levels' e.counts.items mid epoch_there events events') where
    pub mid-len : length mid ≡ length e.counts.items
    mid-len = closed-len (eqb (epoch_there + 1) e.levels.closed) e.counts.items mid did.all.counts

    pub mid-low : (k : ℕ) → slice_index mid k ≤ slice_index e.counts.items k
    mid-low = closed-low (eqb (epoch_there + 1) e.levels.closed) e.counts.items mid did.all.counts

    -- the counts of the tuple's epoch are those with which it goes on
    mid-there : add_counts (cond (eqb (epoch_there + 1) e.levels.closed) e.counts.items []) (arrivals e.levels.epoch (streams e.sources.items) epoch_there)
        ≡ add_counts mid (arrivals e.levels.epoch (streams e.sources.items) epoch_there)
    mid-there = by (eqb (epoch_there + 1) e.levels.closed) did.all.counts
      where
        by : (b : Bool) → mid ≡ cond b e.counts.items (replicate (length e.counts.items) 0) → add_counts (cond b e.counts.items []) arrive ≡ add_counts mid arrive
        by true h = ap (λ l. add_counts l arrive) (sym h)
        by false h = sym (ap (λ l. add_counts l arrive) h ∙ add-zeros (length e.counts.items) arrive (arrivals-len e.levels.epoch epoch_there e.sources.items ∙ sym flow.replay.counted))

    module _ (queues' : Queues) (sources' : Vec Recorded Global) (counts' : Vec ℕ Global)
        (taken : sources'.items ≡ set e.sources.items port more) (counts_are : counts'.items ≡ set mid port (slice_index mid port + 1)) where
      abbrev pub flow-after : Flow O
      flow-after = record e { queues = queues'; sources = sources'; clock = x.time; planner = planner'; levels = levels'; counts = counts' }

      -- of each epoch that isn't closed as many tuples are counted or to be released as before
      pub counts-same : (y : ℕ) → levels'.closed ≤ y + 1 → counts_of e y ≡ counts_of flow-after y
      counts-same y from = by (eqb y epoch_there) refl ∙ sym (ap (λ n. add_counts (cond (eqb (y + 1) n) counts'.items []) (arrivals levels'.epoch (streams sources'.items) y)) did.all.closed
          ∙ ap (λ l. add_counts (cond (eqb (y + 1) (epoch_there + 1)) counts'.items []) l)
          (ap (λ n. arrivals n (streams sources'.items) y) did.some.epoch ∙ ap (λ l. arrivals e.levels.epoch (streams l) y) taken))
        where
          later : (b : Bool) → eqb y epoch_there ≡ b → epoch_there ≤ y
          later b h = let c = did.all.closed in omega (arith, c, from)

          by : (b : Bool) → eqb y epoch_there ≡ b
              → counts_of e y ≡ add_counts (cond (eqb (y + 1) (epoch_there + 1)) counts'.items []) (arrivals e.levels.epoch (streams (set e.sources.items port more)) y)
          by true h =
              let same : y ≡ epoch_there = exact_unsigned_eq y epoch_there h in
              subst (λ k. counts_of e k ≡ add_counts (cond (eqb (k + 1) (epoch_there + 1)) counts'.items []) (arrivals e.levels.epoch (streams (set e.sources.items port more)) k)) (sym same)
              (mid-there
              ∙ sym (ap (λ b. add_counts (cond b counts'.items []) (arrivals e.levels.epoch (streams (set e.sources.items port more)) epoch_there)) (eqb_true (epoch_there + 1) (epoch_there + 1) refl)
              ∙ ap (λ l. add_counts l (arrivals e.levels.epoch (streams (set e.sources.items port more)) epoch_there)) counts_are
              ∙ counted-one e.levels.epoch v more x front epoch_there e.sources.items mid port at refl (mid-len ∙ flow.replay.counted)))
          by false h =
              let apart : y ≢ epoch_there = eqb-no y epoch_there h in
              let from_there = later false h in
              let before = not-before in
              ap (λ b. add_counts (cond b e.counts.items []) (arrivals e.levels.epoch (streams e.sources.items) y)) (eqb-not (y + 1) e.levels.closed (omega (arith, apart, from_there, before)))
              ∙ sym (arrivals-other e.levels.epoch v more x front y e.sources.items port at (λ same. apart (sym same)))
              ∙ ap (λ b. add_counts (cond b counts'.items []) (arrivals e.levels.epoch (streams (set e.sources.items port more)) y)) (sym (eqb-not (y + 1) (epoch_there + 1) (omega (arith, apart))))

      pub planned-after : (all : ℕ → List ℕ) → IsPlanned all e → IsPlanned all flow-after
      planned-after all planned =
          record {
            agrees = rw did.some.same (did.some.agrees all (is-ended all planned.counts) planned.agrees);
            counts = λ y from.
                let c = did.all.closed in
                let before = not-before in
                planned.counts y (omega (arith, c, before, from)) ∙ counts-same y from;
          }

      pub plans-go : plans_of events ++ plans_left e ≡ plans_of events' ++ plans_left flow-after
      plans-go =
          ap (λ z. plans_of events ++ z) cut
          ∙ sym (append_assoc (plans_of events) shown (plans_left flow-after))
          ∙ ap (λ z. z ++ plans_left flow-after) (sym (did.all.plans (counts_of e) (is-ended (counts_of e) (λ y from. refl))))
        where
          last-is : last_arrival e.levels.epoch (streams e.sources.items) ≡ max epoch_there (last_arrival levels'.epoch (streams sources'.items))
          last-is = last-taken e.levels.epoch v more x front e.sources.items port at
              ∙ ap (λ k. max epoch_there k) (sym (ap (λ n. last_arrival n (streams sources'.items)) did.some.epoch ∙ ap (λ l. last_arrival e.levels.epoch (streams l)) taken))

          there : levels'.closed - 1 ≡ epoch_there
          there = let c = did.all.closed in omega (arith, c)

          cut : plans_left e ≡ shown ++ plans_left flow-after
          cut =
              let before = not-before in
              ap (λ k. flat_map (shown_after e.planner (counts_of e)) (range_with_len open_epoch (k - open_epoch))) last-is
              ∙ plans-cut (shown_after e.planner (counts_of e)) (shown_after planner' (counts_of flow-after)) open_epoch epoch_there (last_arrival levels'.epoch (streams sources'.items)) (omega (arith, before))
              (λ y from.
              let c = did.all.closed in
              ap (λ s. shown_after s (counts_of e) y) (sym did.some.same) ∙ ap (shown_from planner' y) (counts-same y (omega (arith, c, from))))
              ∙ ap (λ k. shown ++ flat_map (shown_after planner' (counts_of flow-after)) (range_with_len k (last_arrival levels'.epoch (streams sources'.items) - k))) (sym there)

      -- where the tuple can't be sent
      pub plans-front : PlansPrefix e levels' events events'
      plans-front =
          record {
            shown = (plans_left flow-after, plans-go);
            agrees = λ all planned. did.some.agrees all (is-ended all planned.counts) planned.agrees;
          }

  -- where the epochs before it can't be closed
  pub plans-none : (levels' : LevelTable) (events events' : List Event)
      → ((all : ℕ → List ℕ) → (e.levels.closed < epoch_there + 1 → Ended all (e.levels.closed - 1) epoch_there e.counts.items) → AgreesWith e.levels (level_for e.planner all) → AgreesWith levels' (level_for e.planner all))
      → plans_of events' ≡ plans_of events → PlansPrefix e levels' events events'
  plans-none levels' events events' agrees same =
      record {
        shown = (plans_left e, ap (λ z. z ++ plans_left e) (sym same));
        agrees = λ all planned. agrees all (is-ended all planned.counts) planned.agrees;
      }

-- where no plan was shown, and no level closed
pub plans-stay : {O : Type 0} (e : Flow O) (events events' : List Event) → plans_of events' ≡ plans_of events → PlansPrefix e e.levels events events'
plans-stay e events events' same = record { shown = (plans_left e, ap (λ z. z ++ plans_left e) (sym same)); agrees = λ all h. h.agrees }
