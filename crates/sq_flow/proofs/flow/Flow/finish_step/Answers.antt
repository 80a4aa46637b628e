use Rattle.std.proofs.Common.{ℕ, ◌+◌, ap, length, refl, sym, ◌∙◌, arith, true}
use Rattle.std.specs.Prelude.{Option, Vec}
use Rattle.std.specs.declared.alloc.Global.{Global}
use Rattle.std.proofs.lemmas.Option.{slice_get_read}
use Rattle.std.proofs.lemmas.Result.{err_from_is_err_and}
use Rattle.sq_pool.specs.Trust.{known}
use Rattle.sq_replay.specs.RecordedTuples.{Recorded}
use Rattle.sq_flow.specs.Flows.{IsFlow}
use Rattle.sq_flow.specs.Tails.{joined_in, closed_in}
use Rattle.sq_flow.proofs.WireLemmas.{may-give}
use Rattle.sq_flow.proofs.CauseLemmas.{cause-in, counts-none, feeds-none, none-too-much}
use Rattle.sq_flow.proofs.Measures.{open-less}
use Rattle.sq_flow.proofs.SeatFlow.{seat-fine, runs, is-after, seats-len}
use Rattle.sq_flow.proofs.FinishedFlow.{finished-part, finished-stepped, finished-taken, finished-touches}
use Rattle.sq_flow.proofs.TookLemmas.{ended-sum, operator-took, is-closed}
use Rattle.sq_flow.proofs.SteppingLemmas.{sourced, fails-here, err-unfed}
use Rattle.sq_flow.proofs.flow.Flow.finish_step.Goals as goal

pub returns-clause-ok : goal.returns-clause-ok
returns-clause-ok g c =
    let is = slice_get_read c.args.self.now.seats.items _ c.args.seat c.index_mut.result.now refl c.requires.ended.actor_in c.index_mut.ensures.value in
    let into = c.in_ok-finish_into.ensures.finished in
    let ends = c.end_arcs.ensures in
    let fine = seat-fine _ c.args.self.now c.requires.may.holds.flow c.args.seat c.requires.ended.actor_in c.index_mut.result.now is in
    let ran = sym fine.running ∙ runs _ c.args.self.now c.requires.may.holds.flow c.args.seat c.requires.ended.actor_in c.index_mut.result.now is c.requires.ended.running in
    let less = open-less c.args.self.now.seats.items c.args.seat c.index_mut.result.now c.finish_into.new.seat is ran into.finished.closed in
    let counted = into.finished.after.counted in
    let same = finished-taken _ c.args.self.now c.requires.may.holds.flow c.args.seat c.requires.ended.actor_in c.requires.ended.head c.index_mut.result.now is c.end_arcs.new.queues c.finish_into.new.seat (omega (arith, counted)) in
    let sums = ended-sum c.args.self.now.wires (length c.args.self.now.seats.items) c.requires.may.holds.flow.shaped c.args.seat c.requires.ended.actor_in c.args.self.now.queues c.end_arcs.new.queues
    (λ arc away. ends.apart arc away ∙ into.onward.sent.apart arc away) in
    let stepped = λ (sources : Vec Recorded Global) (ahead : Vec (Option ℕ) Global) (flow : IsFlow g.O.Operator (sourced c.args.self.now sources ahead)).
    finished-stepped _ (sourced c.args.self.now sources ahead) flow c.args.seat c.requires.ended.actor_in c.requires.ended.head c.index_mut.result.now is
    (known (g.D.PageDisk.log c.args.disk.now)) (known (g.D.PageDisk.log c.finish_into.new.disk)) c.finish_into.new.queues c.end_arcs.new.queues c.finish_into.new.seat c.args.events.now.items c.finish_into.new.events.items
    into ends c.requires.may.holds.together c.requires.ended.running in
    λ n. record {
      step =
          record {
            moves = record {
              stepped = stepped c.args.self.now.sources c.args.self.now.ahead c.requires.may.holds.flow;
              on = λ tails fits. stepped (joined_in tails c.args.self.now.sources) (closed_in c.args.self.now.ahead) fits.keeps;
              keeps = record { faults = c.in_ok-finish_into.ensures.disk.faults; later = c.in_ok-finish_into.ensures.disk.later; stay = into.onward.shown.stay };
              touches = finished-touches _ c.args.self.now c.requires.may.holds.flow c.args.seat c.requires.ended.actor_in c.requires.ended.head c.index_mut.result.now is _ _ c.finish_into.new.queues c.end_arcs.new.queues c.finish_into.new.seat _ _ into ends;
              cost = ap (λ k. n + k) (sym same);
            };
            lowers = omega (arith, less);
            took =
                operator-took c.args.self.now _ c.args.seat 0 true c.requires.ended.actor_in (seats-len c.args.self.now c.args.seat c.finish_into.new.seat) (omega (arith, sums))
                (is-closed c.args.self.now.over _ c.finish_into.new.seat (is-after c.args.self.now c.args.seat c.finish_into.new.seat c.requires.ended.actor_in) into.finished.closed);
            waits = tt;
          };
      whole = c.in_ok-finish_into.ensures.whole;
    }

pub returns-in_err-finish_into-clause-err : goal.returns-in_err-finish_into-clause-err
returns-in_err-finish_into-clause-err g c =
    let p = err_from_is_err_and c.from_residual.result c.from_residual.ensures.1 in
    let is = slice_get_read c.args.self.now.seats.items _ c.args.seat c.index_mut.result.now refl c.requires.ended.actor_in c.index_mut.ensures.value in
    let part = c.in_err-finish_into.ensures.part in
    rw (p.1, p.2)
    (λ n.
    err-unfed _ _ _ _ c.requires.may.holds.flow (record { faults = c.in_err-finish_into.ensures.disk.faults; later = c.in_err-finish_into.ensures.disk.later; stay = part.shown.stay }) refl refl part.shown.plans
    (λ sources ahead flow.
    finished-part _ (sourced c.args.self.now sources ahead) flow c.args.seat c.requires.ended.actor_in c.requires.ended.head c.index_mut.result.now is
    (known (g.D.PageDisk.log c.args.disk.now)) (known (g.D.PageDisk.log c.finish_into.new.disk)) c.args.events.now.items c.finish_into.new.events.items
    c.requires.may.holds.together c.in_err-finish_into.ensures.disk.later.known part c.requires.ended.running)
    (λ sources ahead flow told table agrees holds. c.in_err-finish_into.ensures.fails.honest told)
    (λ sources sources' ahead ahead' flow. none-too-much _ _ _ _ _ _ (counts-none _ _ _ _ _ _ c.in_err-finish_into.ensures.fails.cause))
    (cause-in _ _ _ _ _ _ c.in_err-finish_into.ensures.fails.cause)
    (fails-here _ _ _ _ _ _ _ c.requires.may.holds.flow c.requires.may.holds.together c.in_err-finish_into.ensures.disk.later
    (feeds-none _ _ _ _ _ _ _ _ _ _ c.in_err-finish_into.ensures.fails.cause)))

pub finish_into-requires-clause-gives : goal.finish_into-requires-clause-gives
finish_into-requires-clause-gives g c =
    may-give _ c.args.self.now c.requires.may.holds.flow c.args.seat c.requires.ended.actor_in c.requires.ended.running _ _ _ refl (λ arc. refl) c.requires.may.holds.together c.requires.may.whole

pub finish_into-requires-clause-is_valid : goal.finish_into-requires-clause-is_valid
finish_into-requires-clause-is_valid g c =
    let is = slice_get_read c.args.self.now.seats.items _ c.args.seat c.index_mut.result.now refl c.requires.ended.actor_in c.index_mut.ensures.value in
    let fine = seat-fine _ c.args.self.now c.requires.may.holds.flow c.args.seat c.requires.ended.actor_in c.index_mut.result.now is in
    (fine.arcs.is_valid, runs _ c.args.self.now c.requires.may.holds.flow c.args.seat c.requires.ended.actor_in c.index_mut.result.now is c.requires.ended.running)

pub end_arcs-requires-clause-few : goal.end_arcs-requires-clause-few
end_arcs-requires-clause-few g c = c.requires.may.holds.flow.shaped.few_arcs

pub end_arcs-requires-clause-lanes : goal.end_arcs-requires-clause-lanes
end_arcs-requires-clause-lanes g c = c.in_ok-finish_into.ensures.finished.onward.sent.lanes ∙ c.requires.may.holds.flow.lanes
