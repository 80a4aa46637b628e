use Rattle.std.proofs.Common.{ℕ, ◌+◌, ◌++◌, [], Bool, true, false, map, subst, ap, sym, ◌∙◌, append_assoc, append-nil}
use Rattle.std.specs.Prelude.{if◌then◌else◌}
use Rattle.std.proofs.lemmas.Result.{on_ok_weaker}
use Rattle.sq_words.specs.Lists.{IsPrefixOf}
use Rattle.sq_oper.proofs.GivenLemmas.{IsPrefixOf-longer}
use Rattle.sq_oper.proofs.GivingLemmas.{no_ok, some-rest}
use Rattle.sq_oper.proofs.StreamLemmas.{at_zero-append}
use Rattle.sq_oper.specs.Outflow.{given}
use Rattle.sq_oper.specs.Streams.{at_zero, things}
use Rattle.sq_pane.specs.Panes.{window_from}
use Rattle.sq_pane.specs.States.{states_of}
use Rattle.sq_tagged.specs.TaggedStreams.{mark_thing}
use Rattle.sq_agg.specs.Holdings.{bounds_of, closed_at, marks_before, results_of, tagged}
use Rattle.sq_agg.proofs.EndedLemmas.{due_window}
use Rattle.sq_agg.proofs.ending.give_window.Goals as goal
use Rattle.sq_words.proofs.Results.{OnErr_from}

pub returns-in_err-give_marks_before-clause-gives : goal.returns-in_err-give_marks_before-clause-gives
returns-in_err-give_marks_before-clause-gives g c =
    let p = c.args.panes.now in
    let x = bounds_of c.args.waiting.now in
    let start : ℕ = c.start_of-start.result in
    let told = g.F.Fold.told p.fold in
    let items = g.T.Outlet.items c.args.out.now in
    let es = states_of p.held in
    let marks = map mark_thing (marks_before (start + 1) x.waiting) in
    let allowed : Bool = c.allows-allowed.result in
    let shown = things (results_of told (if allowed then tagged start (window_from (g.F.Fold.none p.fold) (g.F.Fold.joined p.fold) p.window p.width start [] es) else [])) in
    let due = due_window (g.F.Fold.none p.fold) (g.F.Fold.joined p.fold) p.window c.requires.window.moves p.width x es told start c.args.k x.waiting c.start_of-start.ensures allowed c.allows-allowed.ensures in
    let r = c.from_residual in
    let e = c.in_err-give_marks_before.ensures.gives in
    record {
      prefix = OnErr_from r.result (λ q.
          let gave = given q (g.T.Outlet.items c.give_marks_before.new.out) in
          subst (IsPrefixOf gave) (ap (λ l. given q items ++ l) (sym (at_zero-append q marks shown) ∙ ap (at_zero q) (sym due)))
          (IsPrefixOf-longer gave (given q items) (at_zero q marks) (at_zero q shown) (e.prefix q)));
      given = no_ok _ _ r.result r.ensures.1;
      sound = e.sound;
      extends = e.extends;
      drops = e.drops;
      stays_ready = no_ok _ _ r.result r.ensures.1;
      came = e.came;
    }

pub returns-then-allowed-clause-bounds : goal.returns-then-allowed-clause-bounds
returns-then-allowed-clause-bounds g c =
    let behind = ap (λ (n : ℕ). n + 1) c.start_of-start.ensures in
    on_ok_weaker c.give_results.result (λ e. c.in_ok-give_marks_before.ensures.bounds ∙ ap (λ (n : ℕ). closed_at n (bounds_of c.args.waiting.now)) behind) c.give_results.ensures.given

pub returns-then-allowed-clause-gives : goal.returns-then-allowed-clause-gives
returns-then-allowed-clause-gives g c =
    let p = c.args.panes.now in
    let x = bounds_of c.args.waiting.now in
    let start : ℕ = c.start_of-start.result in
    let told = g.F.Fold.told p.fold in
    let items = g.T.Outlet.items c.args.out.now in
    let es = states_of p.held in
    let marks = map mark_thing (marks_before (start + 1) x.waiting) in
    let shown = things (results_of told (tagged start (window_from (g.F.Fold.none p.fold) (g.F.Fold.joined p.fold) p.window p.width start [] es))) in
    let due = due_window (g.F.Fold.none p.fold) (g.F.Fold.joined p.fold) p.window c.requires.window.moves p.width x es told start c.args.k x.waiting c.start_of-start.ensures true (sym c.if-allowed.true ∙ c.allows-allowed.ensures) in
    let e = c.in_ok-give_marks_before.ensures.gives in
    some-rest g.T.Outlet _ (λ q. at_zero q shown) _ _ _ c.give_results.result
    (λ q.
    ap (λ l. l ++ at_zero q shown) (e.given q)
    ∙ append_assoc (given q items) (at_zero q marks) (at_zero q shown)
    ∙ ap (λ l. given q items ++ l) (sym (at_zero-append q marks shown) ∙ ap (at_zero q) (sym due)))
    e.sound e.extends e.drops e.came c.give_results.ensures

pub returns-clause-bounds : goal.returns-clause-bounds
returns-clause-bounds g c =
    let behind = ap (λ (n : ℕ). n + 1) c.start_of-start.ensures in
    c.in_ok-give_marks_before.ensures.bounds ∙ ap (λ (n : ℕ). closed_at n (bounds_of c.args.waiting.now)) behind

pub returns-clause-gives : goal.returns-clause-gives
returns-clause-gives g c =
    let p = c.args.panes.now in
    let x = bounds_of c.args.waiting.now in
    let start : ℕ = c.start_of-start.result in
    let told = g.F.Fold.told p.fold in
    let items = g.T.Outlet.items c.args.out.now in
    let es = states_of p.held in
    let marks = map mark_thing (marks_before (start + 1) x.waiting) in
    let due = due_window (g.F.Fold.none p.fold) (g.F.Fold.joined p.fold) p.window c.requires.window.moves p.width x es told start c.args.k x.waiting c.start_of-start.ensures false (sym c.if-allowed.false ∙ c.allows-allowed.ensures) in
    let e = c.in_ok-give_marks_before.ensures.gives in
    record {
      prefix = tt;
      given = λ q. e.given q ∙ ap (λ l. given q items ++ at_zero q l) (sym (append-nil marks) ∙ sym due);
      sound = e.sound;
      extends = e.extends;
      drops = e.drops;
      stays_ready = e.stays_ready;
      came = e.came;
    }
