use Rattle.std.proofs.Common.{◌≡◌, ℕ, ◌++◌, ◌∷◌, List, ap, sym, subst, ◌∙◌}
use Rattle.sq_value.specs.declared.Tuple.{Tuple}
use Rattle.sq_lists.specs.Resamples.{resample_of}
use Rattle.sq_oper.specs.Outflow.{given}
use Rattle.sq_oper.specs.Streams.{things, at_zero}
use Rattle.sq_rounds.specs.Rounds.{CanGive}
use Rattle.sq_rounds.proofs.RoundLemmas.{can-step, all-step}
use Rattle.sq_rounds.proofs.rounds.give_all.Goals as goal
use Rattle.sq_words.proofs.Prefixes.{prefix_along}
use Rattle.sq_oper.proofs.GivingLemmas.{none-went, some-rest}

pub loop-x-preserved : goal.loop-x-preserved
loop-x-preserved g c =
    let table = g.F.Fold.table c.args.fold.now in
    let width = g.F.Fold.width c.args.fold.now in
    let size = c.args.size in
    let x = c.in-Some.x in
    let ws = c.pop_front.new.self.items in
    let held = c.loop-x.held.tuples.items in
    let is = c.loop-x.invariant in
    let e = c.in_ok-give_round.ensures in
    let popped : c.loop-x.waiting.items ≡ x ∷ ws = c.in-Some.ensures.items in
    let can = subst (λ (l : List Tuple). CanGive width size l held) popped is.can in
    record {
      given = λ (q : ℕ).
          ap (λ (l : List Tuple). given q (g.T.Outlet.items c.give_round.new.out) ++ at_zero q (things (resample_of table size ws l))) e.held
          ∙ all-step table size q x ws held (given q (g.T.Outlet.items c.loop-x.out)) (given q (g.T.Outlet.items c.give_round.new.out)) can.waits.1 (e.gives.given q)
          ∙ ap (λ (l : List Tuple). given q (g.T.Outlet.items c.loop-x.out) ++ at_zero q (things (resample_of table size l held))) (sym popped)
          ∙ is.given q;
      can = subst (λ (l : List Tuple). CanGive width size ws l) (sym e.held) (can-step width size x ws held can);
      runs = e.runs;
      sound = λ h. e.gives.sound (is.sound h);
      extends = prefix_along _ _ _ is.extends e.gives.extends;
      drops = e.gives.drops ∙ is.drops;
      ready = e.gives.stays_ready;
      came = λ start h. e.gives.came start (is.came start h);
    }

pub returns-in_err-give_round-clause-gives : goal.returns-in_err-give_round-clause-gives
returns-in_err-give_round-clause-gives g c =
    let inv = c.loop-x.invariant in
    let r = c.from_residual in
    let left = λ (q : ℕ). at_zero q (things (resample_of (g.F.Fold.table c.args.fold.now) c.args.size c.loop-x.waiting.items c.loop-x.held.tuples.items)) in
    some-rest g.T.Outlet _ left _ _ _ r.result inv.given inv.sound inv.extends inv.drops inv.came
    (none-went g.T.Outlet _ _ left _ _ _ r.result r.ensures.1 c.in_err-give_round.ensures.gives)
