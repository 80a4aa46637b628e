use Rattle.std.proofs.Common.{refl, ◌+◌, ◌*◌, ◌^◌, ◌<◌, ◌≤◌, ◌++◌, [], subst, ap, sym, ◌∙◌, append-nil, arith}
use Rattle.std.specs.List.{AllByRecursion}
use Rattle.sq_words.proofs.Prefixes.{prefix_itself}
use Rattle.sq_aggfn.specs.Windows.{IsWindow}
use Rattle.sq_oper.specs.Outflow.{given}
use Rattle.sq_oper.specs.Giving.{GaveSome}
use Rattle.sq_oper.specs.Streams.{at_zero}
use Rattle.sq_oper.proofs.StreamLemmas.{at_zero-nil}
use Rattle.sq_pane.specs.Panes.{shift_of}
use Rattle.sq_rows.specs.Rows.{total, AllAreMade}
use Rattle.sq_pane.specs.Blocks.{IsJoin}
use Rattle.sq_pane.specs.States.{states_of, HaveBlocks}
use Rattle.sq_agg.specs.Holdings.{FitsResult, MarksWait, bounds_of, due_before, folding_of, told_open}
use Rattle.sq_agg.proofs.DueLemmas.{due_alone, none_closed, none_waits}
use Rattle.sq_agg.proofs.EndLemmas.{only_marks}
use Rattle.sq_agg.proofs.FeedLemmas.{sound_marks}
use Rattle.sq_agg.proofs.ending.give_ended.Goals as goal

pub give_marks_before-requires-clause-marks : goal.give_marks_before-requires-clause-marks
give_marks_before-requires-clause-marks g c = sound_marks c.args.panes.now.window.size c.args.now (bounds_of c.args.waiting.now).waiting c.requires.tick c.requires.waits.0

pub returns-then-is_empty-clause-bounds : goal.returns-then-is_empty-clause-bounds
returns-then-is_empty-clause-bounds g c = none_closed c.args.mid (bounds_of c.args.waiting.now) (none_waits _ (sym c.is_empty.ensures ∙ c.if-is_empty.true))

pub returns-then-is_empty-clause-gives : goal.returns-then-is_empty-clause-gives
returns-then-is_empty-clause-gives g c =
    let p = c.args.panes.now in
    let f = folding_of [] (g.F.Fold.none p.fold) (g.F.Fold.joined p.fold) (g.F.Fold.unit p.fold) (g.F.Fold.told p.fold) in
    let x = bounds_of c.args.waiting.now in
    let told = only_marks f p.window c.requires.window p.width c.args.now c.args.ends c.args.time c.args.mid x (states_of p.held) c.requires.ends c.requires.later c.if-time-ends.true c.requires.mid c.requires.waits in
    let nothing = ap (λ ms. due_before f.told c.args.mid ms []) (none_waits x.waiting (sym c.is_empty.ensures ∙ c.if-is_empty.true)) in
    record {
      prefix = tt;
      given = λ q.
          let items = given q (g.T.Outlet.items c.args.out.now) in
          sym (append-nil items) ∙ ap (λ l. items ++ l) (sym (ap (at_zero q) (told ∙ nothing) ∙ at_zero-nil q));
      sound = λ h. h;
      extends = prefix_itself _;
      drops = refl;
      stays_ready = c.requires.is_ready;
      came = λ start h. h;
    }

pub returns-then-time-ends-clause-gives : goal.returns-then-time-ends-clause-gives
returns-then-time-ends-clause-gives g c =
    let p = c.args.panes.now in
    let f = folding_of [] (g.F.Fold.none p.fold) (g.F.Fold.joined p.fold) (g.F.Fold.unit p.fold) (g.F.Fold.told p.fold) in
    let x = bounds_of c.args.waiting.now in
    let told = only_marks f p.window c.requires.window p.width c.args.now c.args.ends c.args.time c.args.mid x (states_of p.held) c.requires.ends c.requires.later c.if-time-ends.true c.requires.mid c.requires.waits in
    subst (λ l. GaveSome g.T.Outlet (λ q. at_zero q l) c.args.out.now c.give_marks_before.new.out c.give_marks_before.result) (sym (due_alone f.told c.args.mid x.waiting) ∙ sym told)
    c.give_marks_before.ensures.gives

pub give_open-requires-clause-window : goal.give_open-requires-clause-window
give_open-requires-clause-window g c = subst (λ z. IsWindow z.window) (sym c.put_in_order.ensures) c.requires.window

pub give_open-requires-clause-wide : goal.give_open-requires-clause-wide
give_open-requires-clause-wide g c = subst (λ z. 1 ≤ z.width) (sym c.put_in_order.ensures) c.requires.wide

pub give_open-requires-clause-narrow : goal.give_open-requires-clause-narrow
give_open-requires-clause-narrow g c = subst (λ z. z.width ≤ z.window.size) (sym c.put_in_order.ensures) c.requires.narrow

pub give_open-requires-clause-begun : goal.give_open-requires-clause-begun
give_open-requires-clause-begun g c = subst (λ z. AllByRecursion (λ e. e.0.0 * z.width ≤ c.args.now + shift_of z.window z.width) (states_of z.held)) (sym c.put_in_order.ensures) c.requires.begun

pub give_open-requires-clause-blocks : goal.give_open-requires-clause-blocks
give_open-requires-clause-blocks g c =
    subst (λ z. HaveBlocks (IsJoin (g.F.Fold.none z.fold) (g.F.Fold.joined z.fold) (g.F.Fold.made z.fold) (g.F.Fold.number z.fold)) z.held) (sym c.put_in_order.ensures) c.requires.blocks

pub give_open-requires-clause-made : goal.give_open-requires-clause-made
give_open-requires-clause-made g c = subst (λ z. AllAreMade (g.F.Fold.made z.fold) (states_of z.held)) (sym c.put_in_order.ensures) c.requires.made

pub give_open-requires-clause-few : goal.give_open-requires-clause-few
give_open-requires-clause-few g c = subst (λ z. total (g.F.Fold.number z.fold) (states_of z.held) < 2 ^ 62) (sym c.put_in_order.ensures) c.requires.few

pub give_open-requires-clause-fit : goal.give_open-requires-clause-fit
give_open-requires-clause-fit g c = subst (λ z. AllByRecursion (λ e. FitsResult (g.F.Fold.width z.fold) e.0.1) (states_of z.held)) (sym c.put_in_order.ensures) c.requires.fit

pub give_open-requires-clause-waits : goal.give_open-requires-clause-waits
give_open-requires-clause-waits g c = subst (λ z. MarksWait z.window.size c.args.now (bounds_of c.args.waiting.now).waiting) (sym c.put_in_order.ensures) c.requires.waits

pub give_open-requires-clause-later : goal.give_open-requires-clause-later
give_open-requires-clause-later g c =
    let size = ap (λ z. z.window.size) c.put_in_order.ensures in
    let later = c.requires.later in
    let mid = c.requires.mid in
    omega (arith, size, later, mid)

pub returns-clause-gives : goal.returns-clause-gives
returns-clause-gives g c =
    subst (λ z. GaveSome g.T.Outlet
    (λ q. at_zero q (told_open (folding_of [] (g.F.Fold.none z.fold) (g.F.Fold.joined z.fold) (g.F.Fold.unit z.fold) (g.F.Fold.told z.fold)) z.window z.width c.args.now c.args.mid (bounds_of c.args.waiting.now) (states_of z.held)))
    c.args.out.now c.give_open.new.out c.give_open.result)
    c.put_in_order.ensures c.give_open.ensures.gives
