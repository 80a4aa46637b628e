use Rattle.std.proofs.Common.{◌≡◌, ◌+◌, List, [], ◌∷◌, ◌++◌, drop, map, refl, ap, sym, subst, ◌∙◌, append_assoc, append-nil}
use Rattle.std.proofs.lemmas.List.{drop_all, drop_more}
use Rattle.std.specs.List.{AllByRecursion}
use Rattle.sq_value.specs.declared.Value.{Value}
use Rattle.sq_oper.specs.Outflow.{given}
use Rattle.sq_oper.specs.Streams.{at_zero, things}
use Rattle.sq_oper.proofs.GivenLemmas.{IsPrefixOf-append}
use Rattle.sq_oper.proofs.GivingLemmas.{no_ok, none-went, some-rest}
use Rattle.sq_oper.proofs.StreamLemmas.{at_zero-append, at_zero-nil}
use Rattle.sq_pane.specs.Panes.{lent_group, window_from}
use Rattle.sq_rows.specs.Rows.{AllAreMade}
use Rattle.sq_pane.specs.States.{states_of}
use Rattle.sq_agg.specs.Holdings.{FitsResult, results_of, tagged}
use Rattle.sq_agg.proofs.EndedLemmas.{All_window}
use Rattle.sq_agg.proofs.results.give_results.Goals as goal
use Rattle.sq_words.proofs.Prefixes.{prefix_along, prefix_itself}
use Rattle.sq_words.proofs.Results.{OnErr_from}

pub returns-in_err-groups : goal.returns-in_err-groups
returns-in_err-groups g c =
    let p = c.args.panes.now in
    let groups = window_from (g.F.Fold.none p.fold) (g.F.Fold.joined p.fold) p.window p.width c.args.start [] (states_of p.held) in
    let r = c.from_residual in
    record {
      prefix = OnErr_from r.result (λ q. IsPrefixOf-append (given q (g.T.Outlet.items c.args.out.now)) (at_zero q (things (results_of (g.F.Fold.told p.fold) (tagged c.args.start groups)))));
      given = no_ok _ _ r.result r.ensures.1;
      sound = λ h. h;
      extends = prefix_itself _;
      drops = refl;
      stays_ready = no_ok _ _ r.result r.ensures.1;
      came = λ start h. h;
    }

pub loop-entry-init : goal.loop-entry-init
loop-entry-init g c =
    let p = c.args.panes.now in
    let none = g.F.Fold.none p.fold in
    let joined = g.F.Fold.joined p.fold in
    let fits = FitsResult (g.F.Fold.width p.fold) in
    let lent = ap (map lent_group) c.deref-entry-items.ensures.value in
    let all = lent ∙ c.in_ok-groups.ensures.value in
    record {
      given = λ q. ap (λ gs. given q (g.T.Outlet.items c.args.out.now) ++ at_zero q (things (results_of (g.F.Fold.told p.fold) (tagged c.args.start gs)))) all;
      made = subst (AllAreMade (g.F.Fold.made p.fold)) (sym lent) c.in_ok-groups.ensures.made;
      fit = subst (λ gs. AllByRecursion (λ e. fits e.0) gs) (sym all) (All_window none joined fits p.window p.width c.args.start (states_of p.held) c.requires.fit [] tt);
      sound = λ h. h;
      extends = prefix_itself _;
      drops = refl;
      ready = c.requires.is_ready;
      came = λ start h. h;
    }

pub give_result-requires-clause-sound : goal.give_result-requires-clause-sound
give_result-requires-clause-sound g c =
    let lines = c.deref-entry-items.result.now in
    let i = c.loop-entry.entry-index in
    let x = c.entry-item.result in
    let rest = map lent_group (drop (i + 1) lines) in
    let step : map lent_group (drop i lines) ≡ lent_group x ∷ rest = ap (map lent_group) (drop_more lines i x c.loop-entry-test.true ∙ ap (λ z. z ∷ drop (i + 1) lines) (sym c.entry-item.is)) in
    let fits = (subst (λ gs. AllByRecursion (λ e. FitsResult (g.F.Fold.width c.args.panes.now.fold) e.0) gs) step c.loop-entry.invariant.fit).0 in
    record { tick = c.requires.tick; least = fits.0; most = fits.1 }

pub give_result-requires-clause-made : goal.give_result-requires-clause-made
give_result-requires-clause-made g c =
    let lines = c.deref-entry-items.result.now in
    let i = c.loop-entry.entry-index in
    let x = c.entry-item.result in
    let rest = map lent_group (drop (i + 1) lines) in
    let step : map lent_group (drop i lines) ≡ lent_group x ∷ rest = ap (map lent_group) (drop_more lines i x c.loop-entry-test.true ∙ ap (λ z. z ∷ drop (i + 1) lines) (sym c.entry-item.is)) in
    (subst (AllAreMade (g.F.Fold.made c.args.panes.now.fold)) step c.loop-entry.invariant.made).0

pub loop-entry-preserved : goal.loop-entry-preserved
loop-entry-preserved g c =
    let lines = c.deref-entry-items.result.now in
    let i = c.loop-entry.entry-index in
    let x = c.entry-item.result in
    let rest = map lent_group (drop (i + 1) lines) in
    let step : map lent_group (drop i lines) ≡ lent_group x ∷ rest = ap (map lent_group) (drop_more lines i x c.loop-entry-test.true ∙ ap (λ z. z ∷ drop (i + 1) lines) (sym c.entry-item.is)) in
    let fold = c.args.panes.now.fold in
    let inv = c.loop-entry.invariant in
    let e = c.in_ok-give_result.ensures in
    let out = g.T.Outlet.items c.loop-entry.out in
    let shown = λ (gs : List (List Value × g.row.F-State.Denot)). things (results_of (g.F.Fold.told fold) (tagged c.args.start gs)) in
    let one = shown (lent_group x ∷ []) in
    record {
      given = λ q.
          ap (λ l. l ++ at_zero q (shown rest)) (e.given q)
          ∙ append_assoc (given q out) (at_zero q one) (at_zero q (shown rest))
          ∙ ap (λ l. given q out ++ l) (sym (at_zero-append q one (shown rest)) ∙ ap (λ gs. at_zero q (shown gs)) (sym step))
          ∙ inv.given q;
      made = (subst (AllAreMade (g.F.Fold.made fold)) step inv.made).1;
      fit = (subst (λ gs. AllByRecursion (λ e. FitsResult (g.F.Fold.width fold) e.0) gs) step inv.fit).1;
      sound = λ h. e.sound (inv.sound h);
      extends = prefix_along _ _ _ inv.extends e.extends;
      drops = e.drops ∙ inv.drops;
      ready = e.stays_ready;
      came = λ start h. e.came start (inv.came start h);
    }

pub returns-in_err-give_result : goal.returns-in_err-give_result
returns-in_err-give_result g c =
    let inv = c.loop-entry.invariant in
    let r = c.from_residual-in_err-give_result in
    let left = things (results_of (g.F.Fold.told c.args.panes.now.fold) (tagged c.args.start (map lent_group (drop c.loop-entry.entry-index c.deref-entry-items.result.now)))) in
    some-rest g.T.Outlet _ (λ q. at_zero q left) _ _ _ r.result inv.given inv.sound inv.extends inv.drops inv.came
    (none-went g.T.Outlet _ _ (λ q. at_zero q left) _ _ _ r.result r.ensures.1 c.in_err-give_result.ensures)

pub returns : goal.returns
returns g c =
    let out = g.T.Outlet.items c.loop-entry.out in
    let over = drop_all c.loop-entry.entry-index c.deref-entry-items.result.now c.loop-entry-test.false in
    let inv = c.loop-entry.invariant in
    record {
      prefix = tt;
      given = λ q.
          sym (append-nil (given q out))
          ∙ ap (λ l. given q out ++ l) (sym (ap (λ ls. at_zero q (things (results_of (g.F.Fold.told c.args.panes.now.fold) (tagged c.args.start (map lent_group ls))))) over ∙ at_zero-nil q))
          ∙ inv.given q;
      sound = inv.sound;
      extends = inv.extends;
      drops = inv.drops;
      stays_ready = inv.ready;
      came = inv.came;
    }
