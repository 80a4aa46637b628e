use Rattle.std.proofs.Common.{ℕ, ◌<◌, ◌^◌, List, length, ap, sym, ◌∙◌, subst, arith}
use Rattle.std.specs.Prelude.{slice_get}
use Rattle.std.proofs.lemmas.Result.{err_from_is_err_and}
use Rattle.sq_flow.specs.Wiring.{numbers_in}
use Rattle.sq_flow.proofs.StepLemmas.{waits-not-ready}
use Rattle.sq_flow.proofs.SteppingLemmas.{step-waits}
use Rattle.sq_flow.proofs.flow.Flow.operator_step.Goals as goal

pub returns-in-Waits-clause-ok : goal.returns-in-Waits-clause-ok
returns-in-Waits-clause-ok g c =
    step-waits _ c.args.seat _ _ c.requires.may
    (waits-not-ready c.args.self.now c.args.seat (rw c.arcs_of.ensures (rw (← c.deref.ensures.value) c.in-Waits.ensures)))

pub returns-in_ok-finish_step-in-Ended-clause-ok : goal.returns-in_ok-finish_step-in-Ended-clause-ok
returns-in_ok-finish_step-in-Ended-clause-ok g c = c.in_ok-finish_step-in-Ended.ensures.ok c.args.steps.now

pub returns-in_err-finish_step-in-Ended-clause-err : goal.returns-in_err-finish_step-in-Ended-clause-err
returns-in_err-finish_step-in-Ended-clause-err g c =
    let p = err_from_is_err_and c.from_residual.result c.from_residual.ensures.1 in rw (p.1, p.2) (c.in_err-finish_step-in-Ended.ensures.err c.args.steps.now)

pub returns-in_err-feed_step-in-Feed-clause-err : goal.returns-in_err-feed_step-in-Feed-clause-err
returns-in_err-feed_step-in-Feed-clause-err g c =
    let p = err_from_is_err_and c.from_residual-in_err-feed_step-in-Feed.result c.from_residual-in_err-feed_step-in-Feed.ensures.1 in rw (p.1, p.2) c.in_err-feed_step-in-Feed.ensures.err

pub feed_step-requires-clause-feeds : goal.feed_step-requires-clause-feeds
feed_step-requires-clause-feeds g c =
    record { time = c.in-Feed.time; next = record { actor_in = c.requires.actor_in; head = rw c.arcs_of.ensures (rw (← c.deref.ensures.value) c.in-Feed.ensures); running = c.requires.running } }

pub finish_step-requires-clause-ended : goal.finish_step-requires-clause-ended
finish_step-requires-clause-ended g c = record { actor_in = c.requires.actor_in; head = rw c.arcs_of.ensures (rw (← c.deref.ensures.value) c.in-Ended.ensures); running = c.requires.running }

pub arcs_of-requires : goal.arcs_of-requires
arcs_of-requires g c = omega (arith, c.requires.actor_in, c.requires.may.holds.flow.shaped.inputs_len)

pub next_of-requires-clause-arcs_in : goal.next_of-requires-clause-arcs_in
next_of-requires-clause-arcs_in g c = λ port arc is.
    subst (λ (n : ℕ). arc < n) (sym c.requires.may.holds.flow.lanes)
    (c.requires.may.holds.flow.shaped.arcs_in c.args.seat port arc (ap (λ l. slice_get l port) (ap numbers_in c.arcs_of.ensures ∙ sym c.deref.ensures.value) ∙ is))

pub next_of-requires-clause-ports : goal.next_of-requires-clause-ports
next_of-requires-clause-ports g c = subst (λ (l : List ℕ). length l < 2 ^ 32) (ap numbers_in c.arcs_of.ensures ∙ sym c.deref.ensures.value) (c.requires.may.holds.flow.shaped.ports c.args.seat)
