use Rattle.std.proofs.Common.{◌≡◌, ℕ, ◌-◌, ◌≤◌, ◌++◌, ◌∷◌, true, Bool, List, ap, sym, subst, ◌∙◌}
use Rattle.std.specs.Prelude.{if◌then◌else◌, nat_lt}
use Rattle.std.specs.List.{AllByRecursion}
use Rattle.sq_value.specs.declared.Tuple.{Tuple}
use Rattle.sq_lists.specs.Sides.{begins_past, recent}
use Rattle.sq_lists.specs.Resamples.{resample_of}
use Rattle.sq_lists.proofs.NearLemmas.{recent-again}
use Rattle.sq_oper.specs.Outflow.{given}
use Rattle.sq_oper.specs.Streams.{things, at_zero}
use Rattle.sq_rounds.specs.Rounds.{CanGive, first_time_from, passed}
use Rattle.sq_rounds.proofs.RoundLemmas.{can-step, first-later, round-step}
use Rattle.sq_rounds.proofs.rounds.give_ready.Goals as goal
use Rattle.sq_words.proofs.Prefixes.{prefix_along}
use Rattle.sq_words.proofs.Results.{OnErr_from}
use Rattle.sq_oper.proofs.GivingLemmas.{no_ok, none-went, some-rest}

pub loop-x-preserved : goal.loop-x-preserved
loop-x-preserved g c =
    let table = g.F.Fold.table c.args.fold.now in
    let width = g.F.Fold.width c.args.fold.now in
    let size = c.args.size in
    let now = c.args.now in
    let x = c.in-Some.x in
    let ws = c.pop_past.new.tuples.items in
    let held = c.loop-x.held.tuples.items in
    let is = c.loop-x.invariant in
    let e = c.in_ok-give_round.ensures in
    let popped : c.loop-x.waiting.items ≡ x ∷ ws = c.in-Some.ensures.rest in
    let past : nat_lt size (now - x.time) ≡ true = sym (c.in-Some.ensures.past ∙ ap (begins_past size now) popped) in
    let can = subst (λ (l : List Tuple). CanGive width size l held) popped is.can in
    let early = subst (λ (l : List Tuple). AllByRecursion (λ (y : Tuple). y.time ≤ now) l) popped is.early in
    let same : recent size now ws ≡ recent size now c.loop-x.waiting.items =
    ap (λ (b : Bool). if b then recent size now ws else x ∷ ws) (sym past) ∙ ap (recent size now) (sym popped) in
    record {
      given = λ (q : ℕ).
          ap (λ (l : List Tuple). given q (g.T.Outlet.items c.give_round.new.out) ++ at_zero q (things (resample_of table size (passed size now ws) l))) e.held
          ∙ round-step table size q now x ws held (given q (g.T.Outlet.items c.loop-x.out)) (given q (g.T.Outlet.items c.give_round.new.out)) past can.waits.1 (e.gives.given q)
          ∙ ap (λ (l : List Tuple). given q (g.T.Outlet.items c.loop-x.out) ++ at_zero q (things (resample_of table size (passed size now l) held))) (sym popped)
          ∙ is.given q;
      waits = same ∙ is.waits;
      keeps =
          ap (recent size (first_time_from now (recent size now ws))) e.held
          ∙ recent-again size x.time (first_time_from now (recent size now ws)) held (first-later size now x.time ws can.waits.1 early.0)
          ∙ ap (λ (l : List Tuple). recent size (first_time_from now l) held) same
          ∙ is.keeps;
      can = subst (λ (l : List Tuple). CanGive width size ws l) (sym e.held) (can-step width size x ws held can);
      early = early.1;
      runs = e.runs;
      sound = λ h. e.gives.sound (is.sound h);
      extends = prefix_along _ _ _ is.extends e.gives.extends;
      drops = e.gives.drops ∙ is.drops;
      ready = e.gives.stays_ready;
      came = λ start h. e.gives.came start (is.came start h);
    }

pub returns-in_err-give_round-clause-gives : goal.returns-in_err-give_round-clause-gives
returns-in_err-give_round-clause-gives g c =
    let inv = c.loop-x.invariant in
    let r = c.from_residual in
    let left = λ (q : ℕ). at_zero q (things (resample_of (g.F.Fold.table c.args.fold.now) c.args.size (passed c.args.size c.args.now c.loop-x.waiting.items) c.loop-x.held.tuples.items)) in
    some-rest g.T.Outlet _ left _ _ _ r.result inv.given inv.sound inv.extends inv.drops inv.came
    (none-went g.T.Outlet _ _ left _ _ _ r.result r.ensures.1 c.in_err-give_round.ensures.gives)

pub returns-in_err-let_go-clause-gives : goal.returns-in_err-let_go-clause-gives
returns-in_err-let_go-clause-gives g c =
    let inv = c.loop-x.invariant in
    let r = c.from_residual-in_err-let_go in
    record {
      prefix = OnErr_from r.result (λ q.
          let left = at_zero q (things (resample_of (g.F.Fold.table c.args.fold.now) c.args.size (passed c.args.size c.args.now c.loop-x.waiting.items) c.loop-x.held.tuples.items)) in
          (left, sym (inv.given q)));
      given = no_ok _ _ r.result r.ensures.1;
      sound = inv.sound;
      extends = inv.extends;
      drops = inv.drops;
      stays_ready = no_ok _ _ r.result r.ensures.1;
      came = inv.came;
    }
