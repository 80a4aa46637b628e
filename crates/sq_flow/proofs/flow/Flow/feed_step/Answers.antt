use Rattle.std.proofs.Common.{ℕ, zero, suc, ◌/◌, ◌≤◌, ◌<◌, length, le_trans, refl, ap, sym, ◌∙◌, arith, subst, false}
use Rattle.std.proofs.Math.Nat.{div-zero}
use Rattle.std.specs.Prelude.{is_some, Option, Vec}
use Rattle.std.specs.declared.alloc.Global.{Global}
use Rattle.std.proofs.lemmas.Option.{slice_get_read, same_Some}
use Rattle.std.proofs.lemmas.Result.{err_from_is_err_and}
use Rattle.sq_pool.specs.Trust.{known}
use Rattle.sq_pool.proofs.TrustLemmas.{IsLater-trans}
use Rattle.sq_replay.specs.RecordedTuples.{Recorded}
use Rattle.sq_flow.specs.Causes.{TakesItem}
use Rattle.sq_flow.specs.Flows.{IsFlow}
use Rattle.sq_flow.specs.Tails.{joined_in, closed_in}
use Rattle.sq_queue.specs.Faces.{items_on}
use Rattle.sq_flow.proofs.WireLemmas.{may-give}
use Rattle.sq_flow.proofs.CauseLemmas.{cause-in, changed-since, feeds-none, full-feed, refused-feed, refused-in, too-much-in, queue-cause-since, counts-none, none-too-much}
use Rattle.sq_flow.proofs.Measures.{weighs, open-same}
use Rattle.sq_flow.proofs.SeatFlow.{seat-fine, runs, is-after, seats-len}
use Rattle.sq_flow.proofs.FedFlow.{may-come, passes-front, fed-part, fed-stepped, fed-touches, costs-fed, too-much-front}
use Rattle.sq_flow.proofs.PlanLemmas.{div-low}
use Rattle.sq_flow.proofs.ReplayFlow.{lines-stay}
use Rattle.sq_flow.proofs.TookLemmas.{fed-sum, operator-took, goes-on}
use Rattle.sq_flow.proofs.SteppingLemmas.{sourced, fails-here, err-unfed}
use Rattle.sq_flow.proofs.flow.Flow.feed_step.Goals as goal
use Rattle.sq_words.proofs.Prefixes.{prefix_itself}

pub returns-clause-ok : goal.returns-clause-ok
returns-clause-ok g c =
    let was = slice_get_read c.args.self.now.seats.items _ c.args.seat c.index.result.now refl c.requires.feeds.next.actor_in c.index.ensures in
    let is = slice_get_read c.args.self.now.seats.items _ c.args.seat c.index_mut.result.now refl c.requires.feeds.next.actor_in c.index_mut.ensures.value in
    let took = subst (λ z. TakesItem (g.D.PageDisk.log c.args.disk.now) (g.D.PageDisk.log c.take_item.new.disk) c.args.self.now.queues c.take_item.new.queues c.arc-at.result.now c.args.arc c.args.port z.tally.place c.args.self.now.clock c.in-Ok.item)
    (same_Some c.index.result.now c.index_mut.result.now (sym was ∙ is)) c.in-Ok.ensures.ok in
    let into = c.in_ok-feed_into.ensures.fed in
    let still = open-same c.args.self.now.seats.items c.args.seat c.index_mut.result.now c.feed_into.new.seat is into.fed.open_still in
    let weight = weighs c.in-Ok.item took.sound in
    let more = c.in-Ok-count_item.ensures.ok.0 in
    let low = c.in-Ok-count_item.ensures.ok.1 in
    let after = is-after c.args.self.now c.args.seat c.feed_into.new.seat c.requires.feeds.next.actor_in in
    let stepped = λ (sources : Vec Recorded Global) (ahead : Vec (Option ℕ) Global) (flow : IsFlow g.O.Operator (sourced c.args.self.now sources ahead)).
    fed-stepped _ (sourced c.args.self.now sources ahead) flow c.args.seat c.requires.feeds.time c.args.port c.args.arc c.arc-at.result.now c.in-Ok.item c.requires.feeds.next.actor_in c.requires.feeds.next.head c.index_mut.result.now is c.arc-at.ensures
    (g.D.PageDisk.log c.args.disk.now) (g.D.PageDisk.log c.take_item.new.disk) c.take_item.new.queues c.requires.may.holds.together c.in-Ok.ensures.disk.later took c.requires.feeds.next.running
    (known (g.D.PageDisk.log c.feed_into.new.disk)) c.feed_into.new.queues c.in-Ok-count_item.taken c.feed_into.new.seat c.args.events.now.items c.feed_into.new.events.items c.in-Ok.ensures.others into more low in
    record {
      step =
          record {
            moves = record {
              stepped = stepped c.args.self.now.sources c.args.self.now.ahead c.requires.may.holds.flow;
              on = λ tails fits. stepped (joined_in tails c.args.self.now.sources) (closed_in c.args.self.now.ahead) fits.keeps;
              keeps = record { faults = le_trans c.in-Ok.ensures.disk.faults c.in_ok-feed_into.ensures.disk.faults; later = IsLater-trans _ _ _ c.in-Ok.ensures.disk.later c.in_ok-feed_into.ensures.disk.later; stay = into.onward.shown.stay };
              touches = fed-touches _ c.args.self.now c.requires.may.holds.flow c.args.seat c.requires.feeds.time c.args.port c.args.arc c.arc-at.result.now c.in-Ok.item c.requires.feeds.next.actor_in c.requires.feeds.next.head c.index_mut.result.now is c.arc-at.ensures
                  _ _ c.take_item.new.queues c.requires.may.holds.together c.in-Ok.ensures.disk.later took c.requires.feeds.next.running _ c.feed_into.new.queues c.in-Ok-count_item.taken c.feed_into.new.seat _ _ c.in-Ok.ensures.others into;
              cost = costs-fed _ c.args.self.now c.requires.may.holds.flow c.args.seat c.requires.feeds.time c.args.port c.args.arc c.arc-at.result.now c.in-Ok.item c.requires.feeds.next.actor_in c.requires.feeds.next.head c.index_mut.result.now is c.arc-at.ensures
                  c.feed_into.new.queues c.in-Ok-count_item.taken c.feed_into.new.seat c.args.steps.now c.feed_into.new.steps into.fed.after.counted c.in_ok-feed_into.ensures.cost;
            };
            lowers = omega (arith, still, weight, more, low);
            took =
                operator-took c.args.self.now _ c.args.seat 1 false c.requires.feeds.next.actor_in (seats-len c.args.self.now c.args.seat c.feed_into.new.seat)
                (fed-sum c.args.self.now.wires (length c.args.self.now.seats.items) c.requires.may.holds.flow.shaped c.args.seat c.requires.feeds.next.actor_in c.args.self.now.queues c.take_item.new.queues c.feed_into.new.queues c.args.port c.args.arc
                c.requires.feeds.next.head.1 took.taken.popped c.in-Ok.ensures.others.faces into.onward.sent.apart)
                (goes-on c.args.self.now.over _ _ c.index_mut.result.now c.feed_into.new.seat is after into.fed.open_still c.requires.feeds.next.running);
            waits = tt;
          };
      whole = c.in_ok-feed_into.ensures.whole;
    }

pub returns-in-Err-clause-err : goal.returns-in-Err-clause-err
returns-in-Err-clause-err g c =
    let is = slice_get_read c.args.self.now.seats.items _ c.args.seat c.index.result.now refl c.requires.feeds.next.actor_in c.index.ensures in
    let events = c.args.events.now.items in
    let was = known (g.D.PageDisk.log c.args.disk.now) in
    err-unfed _ _ _ _ c.requires.may.holds.flow (record { faults = c.in-Err.ensures.disk.faults; later = c.in-Err.ensures.disk.later; stay = prefix_itself _ }) refl refl refl
    (λ sources ahead flow. lines-stay _ was (known (g.D.PageDisk.log c.take_item.new.disk)) (sourced c.args.self.now sources ahead) c.args.self.now.levels events events (λ o. refl) (λ w. refl))
    (λ sources ahead flow told table agrees holds.
    c.in-Err.ensures.err.honest told
    (λ item more front.
    passes-front _ (sourced c.args.self.now sources ahead) flow c.args.seat c.requires.feeds.time c.args.port c.args.arc c.arc-at.result.now item c.requires.feeds.next.actor_in c.requires.feeds.next.head
    c.index.result.now is c.arc-at.ensures table agrees (items_on c.args.self.now.queues was) holds (c.requires.may.holds.together.faces (c.in-Err.ensures.disk.later.known told)) more front))
    (λ sources sources' ahead ahead' flow. none-too-much _ _ _ _ _ _ c.in-Err.ensures.err.counts)
    (refused-in _ c.args.seat c.args.port c.args.arc c.index.result.now c.arc-at.result.now _ _ _ _ _ _ c.requires.feeds.next.head.1 is c.arc-at.ensures c.in-Err.ensures.err.cause)
    (fails-here _ _ _ _ _ _ _ c.requires.may.holds.flow c.requires.may.holds.together c.in-Err.ensures.disk.later
    (refused-feed c.args.self.now (record c.args.self.now { queues = c.take_item.new.queues }) c.args.seat c.args.port c.args.arc _ _ _ _ _ _ _ _ c.requires.feeds.next.head.1 refl c.in-Err.ensures.err.cause))

pub returns-in-Err-count_item-clause-err : goal.returns-in-Err-count_item-clause-err
returns-in-Err-count_item-clause-err g c =
    let is = slice_get_read c.args.self.now.seats.items _ c.args.seat c.index.result.now refl c.requires.feeds.next.actor_in c.index.ensures in
    let events = c.args.events.now.items in
    let was = g.D.PageDisk.log c.args.disk.now in
    let now = g.D.PageDisk.log c.take_item.new.disk in
    err-unfed _ _ _ _ c.requires.may.holds.flow (record { faults = c.in-Ok.ensures.disk.faults; later = c.in-Ok.ensures.disk.later; stay = prefix_itself _ }) refl refl refl
    (λ sources ahead flow. lines-stay _ (known was) (known now) (sourced c.args.self.now sources ahead) c.args.self.now.levels events events (λ o. refl) (λ w. refl))
    (λ sources ahead flow told table agrees holds. rw c.in-Err-count_item.ensures.err.0 tt)
    (λ sources sources' ahead ahead' flow.
    too-much-front _ (sourced c.args.self.now sources ahead) flow c.args.seat c.requires.feeds.time c.args.port c.args.arc c.arc-at.result.now c.in-Ok.item c.requires.feeds.next.actor_in c.requires.feeds.next.head c.index.result.now is c.arc-at.ensures
    was now c.take_item.new.queues (record (sourced c.args.self.now sources' ahead') { queues = c.take_item.new.queues }) c.in-Err-count_item.e c.requires.may.holds.together c.in-Ok.ensures.disk.later c.in-Ok.ensures.ok.taken c.in-Ok.ensures.ok.others
    c.in-Err-count_item.ensures.err.1 c.in-Err-count_item.ensures.few refl refl)
    (too-much-in _ _ _ _ _ _ c.in-Err-count_item.ensures.err.0)
    (fails-here _ _ _ _ _ _ _ c.requires.may.holds.flow c.requires.may.holds.together c.in-Ok.ensures.disk.later
    (full-feed c.args.self.now (record c.args.self.now { queues = c.take_item.new.queues }) c.args.seat c.args.port c.args.arc c.in-Ok.item _ _ _ c.requires.feeds.next.head.1 refl
    c.in-Ok.ensures.ok.taken c.in-Err-count_item.ensures.err.0 c.in-Err-count_item.ensures.err.1))

pub returns-in_err-feed_into-clause-err : goal.returns-in_err-feed_into-clause-err
returns-in_err-feed_into-clause-err g c =
    let p = err_from_is_err_and c.from_residual.result c.from_residual.ensures.1 in
    let was = slice_get_read c.args.self.now.seats.items _ c.args.seat c.index.result.now refl c.requires.feeds.next.actor_in c.index.ensures in
    let is = slice_get_read c.args.self.now.seats.items _ c.args.seat c.index_mut.result.now refl c.requires.feeds.next.actor_in c.index_mut.ensures.value in
    let took = subst (λ z. TakesItem (g.D.PageDisk.log c.args.disk.now) (g.D.PageDisk.log c.take_item.new.disk) c.args.self.now.queues c.take_item.new.queues c.arc-at.result.now c.args.arc c.args.port z.tally.place c.args.self.now.clock c.in-Ok.item)
    (same_Some c.index.result.now c.index_mut.result.now (sym was ∙ is)) c.in-Ok.ensures.ok in
    let part = c.in_err-feed_into.ensures.part in
    rw (p.1, p.2)
    (err-unfed _ _ _ _ c.requires.may.holds.flow
    (record { faults = le_trans c.in-Ok.ensures.disk.faults c.in_err-feed_into.ensures.disk.faults; later = IsLater-trans _ _ _ c.in-Ok.ensures.disk.later c.in_err-feed_into.ensures.disk.later; stay = part.shown.stay })
    refl c.in_err-feed_into.ensures.no_cost part.shown.plans
    (λ sources ahead flow.
    fed-part _ (sourced c.args.self.now sources ahead) flow c.args.seat c.requires.feeds.time c.args.port c.args.arc c.arc-at.result.now c.in-Ok.item c.requires.feeds.next.actor_in c.requires.feeds.next.head c.index_mut.result.now is c.arc-at.ensures
    (g.D.PageDisk.log c.args.disk.now) (g.D.PageDisk.log c.take_item.new.disk) c.take_item.new.queues c.requires.may.holds.together c.in-Ok.ensures.disk.later took c.requires.feeds.next.running
    (known (g.D.PageDisk.log c.feed_into.new.disk)) c.args.events.now.items c.feed_into.new.events.items c.in_err-feed_into.ensures.disk.later.known part)
    (λ sources ahead flow told table agrees holds. changed-since _ _ _ c.in-Ok.ensures.disk.later.honest (c.in_err-feed_into.ensures.fails.honest told))
    (λ sources sources' ahead ahead' flow. none-too-much _ _ _ _ _ _ (counts-none _ _ _ _ _ _ c.in_err-feed_into.ensures.fails.cause))
    (cause-in _ _ _ _ _ _ (queue-cause-since _ _ _ _ _ _ _ _ c.in-Ok.ensures.disk.later c.in-Ok.ensures.disk.faults c.in_err-feed_into.ensures.fails.cause))
    (fails-here _ _ _ _ _ _ _ c.requires.may.holds.flow c.requires.may.holds.together (IsLater-trans _ _ _ c.in-Ok.ensures.disk.later c.in_err-feed_into.ensures.disk.later)
    (feeds-none _ _ _ _ _ _ _ _ _ _ c.in_err-feed_into.ensures.fails.cause)))

-- an earlier time is of no later epoch
epochs-climb : (time clock epoch : ℕ) → time ≤ clock → time / epoch ≤ clock / epoch
epochs-climb time clock zero le = rw (div-zero time, div-zero clock) (omega arith)
epochs-climb time clock (suc k) le = div-low time clock (suc k) (omega arith) le

pub feed_into-requires-clause-fits : goal.feed_into-requires-clause-fits
feed_into-requires-clause-fits g c =
    let was = slice_get_read c.args.self.now.seats.items _ c.args.seat c.index.result.now refl c.requires.feeds.next.actor_in c.index.ensures in
    let is = slice_get_read c.args.self.now.seats.items _ c.args.seat c.index_mut.result.now refl c.requires.feeds.next.actor_in c.index_mut.ensures.value in
    let took = subst (λ z. TakesItem (g.D.PageDisk.log c.args.disk.now) (g.D.PageDisk.log c.take_item.new.disk) c.args.self.now.queues c.take_item.new.queues c.arc-at.result.now c.args.arc c.args.port z.tally.place c.args.self.now.clock c.in-Ok.item)
    (same_Some c.index.result.now c.index_mut.result.now (sym was ∙ is)) c.in-Ok.ensures.ok in
    let fine = seat-fine _ c.args.self.now c.requires.may.holds.flow c.args.seat c.requires.feeds.next.actor_in c.index_mut.result.now is in
    let ran = runs _ c.args.self.now c.requires.may.holds.flow c.args.seat c.requires.feeds.next.actor_in c.index_mut.result.now is c.requires.feeds.next.running in
    let counted = fine.counted in
    let few = fine.few in
    let weight = weighs c.in-Ok.item c.in-Ok.ensures.ok.sound in
    let more = c.in-Ok-count_item.ensures.ok.0 in
    let low = c.in-Ok-count_item.ensures.ok.1 in
    let sooner = epochs-climb c.in-Ok.item.time c.args.self.now.clock c.args.self.now.levels.epoch c.in-Ok.ensures.ok.may_be_fed.in_time in
    let closed = c.requires.may.holds.flow.levels.0 in
    record {
      is_valid = (fine.arcs.is_valid, ran);
      may_come = may-come _ c.args.self.now c.requires.may.holds.flow c.args.seat c.requires.feeds.time c.args.port c.args.arc c.arc-at.result.now c.in-Ok.item c.requires.feeds.next.actor_in c.requires.feeds.next.head c.index_mut.result.now is c.arc-at.ensures took.may_be_fed;
      is_sound = c.in-Ok.ensures.ok.sound;
      has_epoch = fine.reads (sym fine.running ∙ ran);
      has_level = omega (arith, sooner, closed);
      has_room = (omega (arith, counted, few, weight, more, low), omega (arith, few, weight, more, low));
    }

pub feed_into-requires-clause-gives : goal.feed_into-requires-clause-gives
feed_into-requires-clause-gives g c =
    may-give _ c.args.self.now c.requires.may.holds.flow c.args.seat c.requires.feeds.next.actor_in c.requires.feeds.next.running _ _ _ c.in-Ok.ensures.others.size c.in-Ok.ensures.ok.ended c.in-Ok.ensures.ok.together c.requires.may.whole

pub take_item-requires : goal.take_item-requires
take_item-requires g c =
    record {
      there = subst (λ (n : ℕ). c.args.arc < n) (sym c.requires.may.holds.flow.lanes) (c.requires.may.holds.flow.shaped.arcs_in c.args.seat c.args.port c.args.arc c.requires.feeds.next.head.1);
      some = ap is_some c.requires.feeds.next.head.2;
      together = c.requires.may.holds.together;
    }
