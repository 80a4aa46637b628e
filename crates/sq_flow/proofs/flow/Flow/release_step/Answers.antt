use Rattle.std.proofs.Common.{◌≡◌, ℕ, ◌+◌, ◌-◌, ◌/◌, ◌≤◌, ◌<◌, List, [], ◌∷◌, ◌++◌, Some, length, set, le_refl, refl, ap, sym, ◌∙◌, subst, arith, false}
use Rattle.std.specs.Prelude.{slice_get}
use Rattle.std.specs.Vec.{with_item}
use Rattle.std.proofs.Math.Nat.{div-le_self}
use Rattle.std.proofs.lemmas.Option.{slice_get_read, get_or_from_slice_get}
use Rattle.std.proofs.lemmas.Result.{err_from_is_err_and}
use Rattle.sq_value.specs.declared.Tuple.{Tuple}
use Rattle.sq_road.specs.Levels.{AgreesWith}
use Rattle.sq_plan.specs.PlanRows.{level_for, Ended}
use Rattle.sq_pool.specs.Trust.{known}
use Rattle.sq_pool.proofs.TrustLemmas.{IsLater-refl}
use Rattle.sq_replay.specs.RecordedTuples.{Recorded}
use Rattle.sq_flow.specs.Flows.{tuples_to_come}
use Rattle.sq_flow.specs.Sources.{BeginsLeast, IsNextSource}
use Rattle.sq_flow.proofs.WireLemmas.{arcs-open}
use Rattle.sq_flow.proofs.CauseLemmas.{cause-in, counts-none, feeds-none}
use Rattle.sq_flow.proofs.ReleasedPlans.{ClosedBefore, agrees-before, in-time, sound, not-before, closed-len, closed-low, mid-len, plans-front, plans-none, plans-stay}
use Rattle.sq_flow.proofs.ReplayFlow.{replay-open, replay-runs, item-sound, released-stepped, released-touches, count-less}
use Rattle.sq_flow.specs.Tails.{with_tails, joined_in}
use Rattle.sq_flow.proofs.TailLemmas.{joined-at, joined-set, next-whatever}
use Rattle.sq_flow.proofs.TookLemmas.{replay-took}
use Rattle.sq_flow.proofs.SteppingLemmas.{fails-here, short-silent}
use Rattle.sq_flow.proofs.flow.Flow.release_step.Goals as goal
use Rattle.sq_words.proofs.Prefixes.{prefix_itself}

-- the epoch that was told is the tuple's by the length that the levels have
next-is : (time len epoch next : ℕ) → next ≡ time / len → len ≡ epoch → next ≡ time / epoch
next-is time len epoch next told same = told ∙ ap (λ n. time / n) same

pub returns-in-Ok-clause-ok : goal.returns-in-Ok-clause-ok
returns-in-Ok-clause-ok g c =
    let sources = c.args.self.now.sources.items in
    let at = slice_get_read sources _ c.args.source c.index_mut.result.now refl c.requires.next.there c.index_mut.ensures.value in
    let pos : 0 < c.args.self.now.levels.epoch = omega (arith, c.epoch.ensures.epoch, c.epoch.ensures.lasts) in
    let next_is = next-is _ _ _ _ c.epoch_of-next.ensures c.epoch.ensures.epoch in
    let did = subst (λ (n : ℕ). ClosedBefore c.args.self.now.planner c.close_before.new.planner c.args.self.now.levels c.close_before.new.levels c.args.self.now.counts.items c.close_before.new.counts.items
    n c.args.events.now.items c.close_before.new.events.items) next_is
    (record { some = c.in_ok-close_before.ensures.closes; all = c.in_ok-close_before.ensures.ok }) in
    let len = mid-len _ c.args.self.now c.requires.may.holds.flow pos c.args.source c.index_mut.result.now c.first_of.new.stream c.in_ok-tuple.tuple c.requires.next at c.in_ok-tuple.ensures.ok _ _ _ _ _ did in
    let within : c.args.source < length c.close_before.new.counts.items = omega (arith, len, c.requires.may.holds.flow.replay.counted, c.requires.next.there) in
    let read = get_or_from_slice_get c.close_before.new.counts.items c.args.source c.index_mut-2.result.now 0
    (slice_get_read c.close_before.new.counts.items _ c.args.source c.index_mut-2.result.now refl within c.index_mut-2.ensures.value) in
    let counted = ap (λ n. set c.close_before.new.counts.items c.args.source (n + 1)) (sym read) in
    let less = count-less sources c.args.source c.index_mut.result.now c.first_of.new.stream c.in_ok-tuple.tuple at c.in_ok-tuple.ensures.ok in
    λ n. record {
      whole = c.in-Ok.ensures.ok.whole;
      step = record {
        moves = record {
          stepped =
              released-stepped _ c.args.self.now c.requires.may.holds.flow pos c.args.source c.index_mut.result.now c.first_of.new.stream c.in_ok-tuple.tuple c.requires.next at c.in_ok-tuple.ensures.ok _ _ _ _ _ did
              (with_item c.args.self.now.sources c.args.source c.first_of.new.stream) (with_item c.close_before.new.counts c.args.source (c.index_mut-2.result.now + 1)) refl counted
              (known (g.D.PageDisk.log c.args.disk.now)) (known (g.D.PageDisk.log c.send_one.new.disk)) c.send_one.new.queues c.requires.may.holds.together (rw (c.none.ensures, c.some.ensures) at c.in-Ok.ensures.ok.sent);
          on = λ tails fits.
              released-stepped _ (with_tails tails c.args.self.now) fits.keeps pos c.args.source (record { items = c.index_mut.result.now.items ++ tails c.args.source }) (record { items = c.first_of.new.stream.items ++ tails c.args.source }) c.in_ok-tuple.tuple
              (next-whatever tails sources c.args.self.now.ahead.items c.requires.clear fits.may c.args.source c.requires.next) (joined-at tails sources c.args.source c.index_mut.result.now at) (ap (λ l. l ++ tails c.args.source) c.in_ok-tuple.ensures.ok) _ _ _ _ _ did
              (joined_in tails (with_item c.args.self.now.sources c.args.source c.first_of.new.stream)) (with_item c.close_before.new.counts c.args.source (c.index_mut-2.result.now + 1)) (joined-set tails sources c.args.source c.first_of.new.stream) counted
              (known (g.D.PageDisk.log c.args.disk.now)) (known (g.D.PageDisk.log c.send_one.new.disk)) c.send_one.new.queues c.requires.may.holds.together (rw (c.none.ensures, c.some.ensures) at c.in-Ok.ensures.ok.sent);
          keeps = record { faults = c.in-Ok.ensures.disk.faults; later = c.in-Ok.ensures.disk.later; stay = c.in_ok-close_before.ensures.closes.stay };
          touches =
              released-touches _ c.args.self.now c.requires.may.holds.flow pos c.args.source c.index_mut.result.now c.first_of.new.stream c.in_ok-tuple.tuple c.requires.next at c.in_ok-tuple.ensures.ok
              (known (g.D.PageDisk.log c.args.disk.now)) (known (g.D.PageDisk.log c.send_one.new.disk)) c.send_one.new.queues (with_item c.args.self.now.sources c.args.source c.first_of.new.stream) c.close_before.new.planner c.close_before.new.levels
              (with_item c.close_before.new.counts c.args.source (c.index_mut-2.result.now + 1)) (rw (c.none.ensures, c.some.ensures) at c.in-Ok.ensures.ok.sent);
          cost = refl;
        };
        lowers = omega (arith, less);
        took =
            replay-took c.args.self.now _ 1 false refl less
            (sym (replay-runs _ c.args.self.now c.requires.may.holds.flow pos c.args.source c.index_mut.result.now c.first_of.new.stream c.in_ok-tuple.tuple c.requires.next at c.in_ok-tuple.ensures.ok));
        waits = tt;
      };
    }

pub returns-in_err-tuple-clause-err : goal.returns-in_err-tuple-clause-err
returns-in_err-tuple-clause-err g c =
    let p = err_from_is_err_and c.from_residual.result c.from_residual.ensures.1 in
    let events = c.args.events.now.items in
    rw (p.1, p.2)
    (λ n. record {
      keeps = record { faults = le_refl _; later = IsLater-refl _; stay = prefix_itself _ };
      closes = λ table agrees. agrees;
      short = short-silent _ _ _ _ c.requires.may.holds.flow refl (λ o. refl) (λ w. refl) (plans-stay c.args.self.now events events refl) (λ told. tt) (λ same. cc same);
      on = λ tails fits. short-silent _ _ _ _ fits.keeps refl (λ o. refl) (λ w. refl) (plans-stay (with_tails tails c.args.self.now) events events refl) (λ told. tt) (λ same. cc same);
      cause = tt;
      feed = fails-here _ _ _ _ _ _ _ c.requires.may.holds.flow c.requires.may.holds.together (IsLater-refl _) tt;
    })

pub returns-in_err-close_before-clause-err : goal.returns-in_err-close_before-clause-err
returns-in_err-close_before-clause-err g c =
    let p = err_from_is_err_and c.from_residual-in_err-close_before.result c.from_residual-in_err-close_before.ensures.1 in
    let sources = c.args.self.now.sources.items in
    let at = slice_get_read sources _ c.args.source c.index_mut.result.now refl c.requires.next.there c.index_mut.ensures.value in
    let pos : 0 < c.args.self.now.levels.epoch = omega (arith, c.epoch.ensures.epoch, c.epoch.ensures.lasts) in
    let next_is = next-is _ _ _ _ c.epoch_of-next.ensures c.epoch.ensures.epoch in
    let closes = c.in_err-close_before.ensures.closes in
    let agrees = λ (all : ℕ → List ℕ).
    subst (λ (n : ℕ). (c.args.self.now.levels.closed < n + 1 → Ended all (c.args.self.now.levels.closed - 1) n c.args.self.now.counts.items)
    → AgreesWith c.args.self.now.levels (level_for c.args.self.now.planner all) → AgreesWith c.close_before.new.levels (level_for c.args.self.now.planner all)) next_is (closes.agrees all) in
    rw (p.1, p.2)
    (λ n. record {
      keeps = record { faults = le_refl _; later = IsLater-refl _; stay = closes.stay };
      closes = agrees-before c.args.self.now.levels c.close_before.new.levels closes.keeps closes.grows;
      short =
          short-silent _ _ _ _ c.requires.may.holds.flow refl closes.lines closes.drops
          (plans-none _ c.args.self.now c.requires.may.holds.flow pos c.args.source c.index_mut.result.now c.first_of.new.stream c.in_ok-tuple.tuple c.requires.next at c.in_ok-tuple.ensures.ok c.close_before.new.levels c.args.events.now.items c.close_before.new.events.items
          agrees c.in_err-close_before.ensures.err) (λ told. tt) (λ same. cc same);
      on = λ tails fits.
          short-silent _ _ _ _ fits.keeps refl closes.lines closes.drops
          (plans-none _ (with_tails tails c.args.self.now) fits.keeps pos c.args.source (record { items = c.index_mut.result.now.items ++ tails c.args.source }) (record { items = c.first_of.new.stream.items ++ tails c.args.source }) c.in_ok-tuple.tuple
          (next-whatever tails sources c.args.self.now.ahead.items c.requires.clear fits.may c.args.source c.requires.next) (joined-at tails sources c.args.source c.index_mut.result.now at) (ap (λ l. l ++ tails c.args.source) c.in_ok-tuple.ensures.ok)
          c.close_before.new.levels c.args.events.now.items c.close_before.new.events.items agrees c.in_err-close_before.ensures.err) (λ told. tt) (λ same. cc same);
      cause = tt;
      feed = fails-here _ _ _ _ _ _ _ c.requires.may.holds.flow c.requires.may.holds.together (IsLater-refl _) tt;
    })

pub returns-in-Err-clause-err : goal.returns-in-Err-clause-err
returns-in-Err-clause-err g c =
    let sources = c.args.self.now.sources.items in
    let at = slice_get_read sources _ c.args.source c.index_mut.result.now refl c.requires.next.there c.index_mut.ensures.value in
    let pos : 0 < c.args.self.now.levels.epoch = omega (arith, c.epoch.ensures.epoch, c.epoch.ensures.lasts) in
    let next_is = next-is _ _ _ _ c.epoch_of-next.ensures c.epoch.ensures.epoch in
    let did = subst (λ (n : ℕ). ClosedBefore c.args.self.now.planner c.close_before.new.planner c.args.self.now.levels c.close_before.new.levels c.args.self.now.counts.items c.close_before.new.counts.items
    n c.args.events.now.items c.close_before.new.events.items) next_is
    (record { some = c.in_ok-close_before.ensures.closes; all = c.in_ok-close_before.ensures.ok }) in
    let len = mid-len _ c.args.self.now c.requires.may.holds.flow pos c.args.source c.index_mut.result.now c.first_of.new.stream c.in_ok-tuple.tuple c.requires.next at c.in_ok-tuple.ensures.ok _ _ _ _ _ did in
    let within : c.args.source < length c.close_before.new.counts.items = omega (arith, len, c.requires.may.holds.flow.replay.counted, c.requires.next.there) in
    let read = get_or_from_slice_get c.close_before.new.counts.items c.args.source c.index_mut-2.result.now 0
    (slice_get_read c.close_before.new.counts.items _ c.args.source c.index_mut-2.result.now refl within c.index_mut-2.ensures.value) in
    let counted = ap (λ n. set c.close_before.new.counts.items c.args.source (n + 1)) (sym read) in
    let closes = c.in_ok-close_before.ensures.closes in
    let fails = c.in-Err.ensures.err.fails in
    rw (c.fault_of.ensures, c.take.ensures.value)
    (λ n. record {
      keeps = record { faults = c.in-Err.ensures.disk.faults; later = c.in-Err.ensures.disk.later; stay = closes.stay };
      closes = agrees-before c.args.self.now.levels c.close_before.new.levels closes.keeps closes.grows;
      short =
          short-silent _ _ _ _ c.requires.may.holds.flow refl closes.lines closes.drops
          (plans-front _ c.args.self.now c.requires.may.holds.flow pos c.args.source c.index_mut.result.now c.first_of.new.stream c.in_ok-tuple.tuple c.requires.next at c.in_ok-tuple.ensures.ok _ _ _ _ _ did
          c.send_one.new.queues (with_item c.args.self.now.sources c.args.source c.first_of.new.stream) (with_item c.close_before.new.counts c.args.source (c.index_mut-2.result.now + 1)) refl counted)
          fails.honest (counts-none _ _ _ _ _ _ fails.cause);
      on = λ tails fits.
          short-silent _ _ _ _ fits.keeps refl closes.lines closes.drops
          (plans-front _ (with_tails tails c.args.self.now) fits.keeps pos c.args.source (record { items = c.index_mut.result.now.items ++ tails c.args.source }) (record { items = c.first_of.new.stream.items ++ tails c.args.source }) c.in_ok-tuple.tuple
          (next-whatever tails sources c.args.self.now.ahead.items c.requires.clear fits.may c.args.source c.requires.next) (joined-at tails sources c.args.source c.index_mut.result.now at) (ap (λ l. l ++ tails c.args.source) c.in_ok-tuple.ensures.ok) _ _ _ _ _ did
          c.send_one.new.queues (joined_in tails (with_item c.args.self.now.sources c.args.source c.first_of.new.stream)) (with_item c.close_before.new.counts c.args.source (c.index_mut-2.result.now + 1))
          (joined-set tails sources c.args.source c.first_of.new.stream) counted)
          fails.honest (counts-none _ _ _ _ _ _ fails.cause);
      cause = cause-in _ _ _ _ _ _ fails.cause;
      feed = fails-here _ _ _ _ _ _ _ c.requires.may.holds.flow c.requires.may.holds.together c.in-Err.ensures.disk.later (feeds-none _ _ _ _ _ _ _ _ _ _ fails.cause);
    })

pub send_one-requires-clause-may : goal.send_one-requires-clause-may
send_one-requires-clause-may g c =
    let sources = c.args.self.now.sources.items in
    let at = slice_get_read sources _ c.args.source c.index_mut.result.now refl c.requires.next.there c.index_mut.ensures.value in
    let pos : 0 < c.args.self.now.levels.epoch = omega (arith, c.epoch.ensures.epoch, c.epoch.ensures.lasts) in
    record {
      there =
          arcs-open _ c.args.self.now c.requires.may.holds.flow c.args.self.now.wires.replay
          (replay-open _ c.args.self.now c.requires.may.holds.flow (replay-runs _ c.args.self.now c.requires.may.holds.flow pos c.args.source c.index_mut.result.now c.first_of.new.stream c.in_ok-tuple.tuple c.requires.next at c.in_ok-tuple.ensures.ok)) c.args.source;
      sound =
          rw (c.none.ensures, c.some.ensures)
          (item-sound _ c.args.self.now c.requires.may.holds.flow pos c.args.source c.index_mut.result.now c.first_of.new.stream c.in_ok-tuple.tuple c.requires.next at c.in_ok-tuple.ensures.ok);
      together = c.requires.may.holds.together;
    }

-- something is left of the source that releases next
some-left : (sources : List Recorded) (source : ℕ) (v : Recorded) → IsNextSource sources source → slice_get sources source ≡ Some v → 0 < length v.items
some-left sources source v next at = by v.items (subst (λ o. BeginsLeast sources source (tuples_to_come o)) at next.least)
  where
    by : (tuples : List Tuple) → BeginsLeast sources source tuples → 0 < length tuples
    by [] none = absurd none
    by (x ∷ xs) least = omega arith

pub first_of-requires : goal.first_of-requires
first_of-requires g c =
    record {
      some = some-left c.args.self.now.sources.items c.args.source c.index_mut.result.now c.requires.next
          (slice_get_read c.args.self.now.sources.items _ c.args.source c.index_mut.result.now refl c.requires.next.there c.index_mut.ensures.value);
      empty = c.reuse-values.ensures;
    }

pub epoch_of-next-requires-clause-later : goal.epoch_of-next-requires-clause-later
epoch_of-next-requires-clause-later g c =
    let sources = c.args.self.now.sources.items in
    let at = slice_get_read sources _ c.args.source c.index_mut.result.now refl c.requires.next.there c.index_mut.ensures.value in
    let pos : 0 < c.args.self.now.levels.epoch = omega (arith, c.epoch.ensures.epoch, c.epoch.ensures.lasts) in
    rw c.closed.ensures.closed (subst (λ (n : ℕ). c.args.self.now.levels.closed ≤ c.in_ok-tuple.tuple.time / n + 1) (sym c.epoch.ensures.epoch)
    (not-before _ c.args.self.now c.requires.may.holds.flow pos c.args.source c.index_mut.result.now c.first_of.new.stream c.in_ok-tuple.tuple c.requires.next at c.in_ok-tuple.ensures.ok))

pub close_before-requires-clause-later : goal.close_before-requires-clause-later
close_before-requires-clause-later g c =
    let sources = c.args.self.now.sources.items in
    let at = slice_get_read sources _ c.args.source c.index_mut.result.now refl c.requires.next.there c.index_mut.ensures.value in
    let pos : 0 < c.args.self.now.levels.epoch = omega (arith, c.epoch.ensures.epoch, c.epoch.ensures.lasts) in
    let next_is = next-is _ _ _ _ c.epoch_of-next.ensures c.epoch.ensures.epoch in
    subst (λ (n : ℕ). c.args.self.now.levels.closed ≤ n + 1) (sym next_is)
    (not-before _ c.args.self.now c.requires.may.holds.flow pos c.args.source c.index_mut.result.now c.first_of.new.stream c.in_ok-tuple.tuple c.requires.next at c.in_ok-tuple.ensures.ok)

pub index_mut-requires : goal.index_mut-requires
index_mut-requires g c = omega (arith, c.requires.next.there, c.args.self.now.sources.ok.0)

pub index_mut-requires-2 : goal.index_mut-requires-2
index_mut-requires-2 g c =
    let len = closed-len _ c.args.self.now.counts.items c.close_before.new.counts.items c.in_ok-close_before.ensures.ok.counts in
    omega (arith, len, c.requires.may.holds.flow.replay.counted, c.requires.next.there, c.close_before.new.counts.ok.0)

pub send_one-requires-clause-within : goal.send_one-requires-clause-within
send_one-requires-clause-within g c = let many = c.requires.may.holds.flow.shaped.readers_len in let replay = c.requires.may.holds.flow.shaped.replay_is in omega (arith, many, replay)

pub overflow_add-index_mut : goal.overflow_add-index_mut
overflow_add-index_mut g c =
    let len = closed-len _ c.args.self.now.counts.items c.close_before.new.counts.items c.in_ok-close_before.ensures.ok.counts in
    let within : c.args.source < length c.close_before.new.counts.items = omega (arith, len, c.requires.may.holds.flow.replay.counted, c.requires.next.there) in
    let read = get_or_from_slice_get c.close_before.new.counts.items c.args.source c.index_mut-2.result.now 0
    (slice_get_read c.close_before.new.counts.items _ c.args.source c.index_mut-2.result.now refl within c.index_mut-2.ensures.value) in
    let low = closed-low _ c.args.self.now.counts.items c.close_before.new.counts.items c.in_ok-close_before.ensures.ok.counts c.args.source in
    let few = c.requires.may.holds.flow.replay.few_tuples c.args.source in
    record { fits = omega (arith, read, low, few) }

pub close_before-requires-clause-fits : goal.close_before-requires-clause-fits
close_before-requires-clause-fits g c =
    let sources = c.args.self.now.sources.items in
    let at = slice_get_read sources _ c.args.source c.index_mut.result.now refl c.requires.next.there c.index_mut.ensures.value in
    let pos : 0 < c.args.self.now.levels.epoch = omega (arith, c.epoch.ensures.epoch, c.epoch.ensures.lasts) in
    let low = (in-time _ c.args.self.now c.requires.may.holds.flow pos c.args.source c.index_mut.result.now c.first_of.new.stream c.in_ok-tuple.tuple c.requires.next at c.in_ok-tuple.ensures.ok).1 in
    omega (arith, low, c.epoch_of-next.ensures, div-le_self c.in_ok-tuple.tuple.time c.epoch.result)

pub some-requires : goal.some-requires
some-requires g c =
    let sources = c.args.self.now.sources.items in
    let at = slice_get_read sources _ c.args.source c.index_mut.result.now refl c.requires.next.there c.index_mut.ensures.value in
    let pos : 0 < c.args.self.now.levels.epoch = omega (arith, c.epoch.ensures.epoch, c.epoch.ensures.lasts) in
    let low = (sound _ c.args.self.now c.requires.may.holds.flow pos c.args.source c.index_mut.result.now c.first_of.new.stream c.in_ok-tuple.tuple c.requires.next at c.in_ok-tuple.ensures.ok).1 in
    omega (arith, low)
