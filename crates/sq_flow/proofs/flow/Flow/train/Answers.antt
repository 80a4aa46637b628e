use Rattle.std.proofs.Common.{refl, sym, arith}
use Rattle.sq_flow.proofs.SteppingLemmas.{moves-none, err-after, train-whole, train-waits, train-finished, train-fed}
use Rattle.sq_flow.proofs.flow.Flow.train.Goals as goal

pub steps-init : goal.steps-init
steps-init g c =
    record {
      under = record { moves = moves-none _ c.args.seat _ c.requires.holds.flow c.requires.holds.together; falls = omega arith; begun = λ none. refl; took = λ running. record { falls = omega arith; done = sym running } };
      whole = refl;
      few = omega arith;
    }

pub steps-preserved : goal.steps-preserved
steps-preserved g c =
    record {
      under = train-fed _ c.args.seat c.steps.fed c.args.train _ _ c.steps.invariant.under _ _ c.in-Ok.ensures.ok.step c.in-Fed.is;
      whole = c.in-Ok.ensures.ok.whole;
      few = omega arith;
    }

pub returns-in-Err-clause-err : goal.returns-in-Err-clause-err
returns-in-Err-clause-err g c = err-after _ c.args.seat _ _ _ _ c.steps.invariant.under.moves c.in-Err.ensures.err

pub returns-in-Waits-clause-ok : goal.returns-in-Waits-clause-ok
returns-in-Waits-clause-ok g c = train-waits _ c.args.seat c.steps.fed c.args.train _ _ c.steps.invariant.under _ _ c.in-Ok.ensures.ok.step c.in-Waits.is c.steps.invariant.few

pub returns-in-Finished-clause-ok : goal.returns-in-Finished-clause-ok
returns-in-Finished-clause-ok g c = train-finished _ c.args.seat c.steps.fed c.args.train _ _ c.steps.invariant.under _ _ c.in-Ok.ensures.ok.step c.in-Finished.is c.steps.invariant.few

pub returns-clause-ok : goal.returns-clause-ok
returns-clause-ok g c = train-whole _ c.args.seat c.steps.fed c.args.train _ _ c.steps.invariant.under (omega (arith, c.steps.invariant.few)) c.requires.some

pub one_step-requires-clause-actor_in : goal.one_step-requires-clause-actor_in
one_step-requires-clause-actor_in g c = omega (arith, c.requires.actor_in, c.steps.invariant.under.moves.stepped.seats)

pub one_step-requires-clause-may : goal.one_step-requires-clause-may
one_step-requires-clause-may g c =
    let moves = c.steps.invariant.under.moves in
    record { holds = record { flow = moves.stepped.flow_after; together = moves.stepped.together }; whole = c.steps.invariant.whole }
