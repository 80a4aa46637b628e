use Rattle.std.proofs.Common.{ℕ, ◌+◌, ◌-◌, ◌<◌, ◌≤◌, ◌++◌, subst, ap, ap₂, sym, ◌∙◌, append_assoc, map, arith}
use Rattle.std.proofs.lemmas.Result.{on_ok_weaker}
use Rattle.std.specs.List.{AllByRecursion, flat_map, range_with_len}
use Rattle.sq_words.specs.Lists.{IsPrefixOf}
use Rattle.sq_aggfn.specs.Windows.{start_of}
use Rattle.sq_aggfn.proofs.StartLemmas.{starts_rise}
use Rattle.sq_oper.proofs.GivenLemmas.{IsPrefixOf-longer}
use Rattle.sq_oper.proofs.GivingLemmas.{no_ok, some-rest}
use Rattle.sq_oper.proofs.StreamLemmas.{at_zero-append}
use Rattle.sq_oper.specs.Outflow.{given}
use Rattle.sq_oper.specs.Streams.{at_zero}
use Rattle.sq_tagged.specs.TaggedStreams.{mark_thing}
use Rattle.sq_pane.specs.States.{states_of}
use Rattle.sq_agg.specs.Holdings.{Bounds, IsSoundMark, bound_for, bounds_of, closed_at, due_before, ended, marks_before, marks_from}
use Rattle.sq_agg.proofs.DueLemmas.{closed_twice, All_from, due_alone}
use Rattle.sq_agg.proofs.EndedLemmas.{ended_same, next_windows, no_windows, window_first}
use Rattle.sq_agg.proofs.FeedLemmas.{closed_bound}
use Rattle.sq_agg.proofs.ending.give_windows.Goals as goal
use Rattle.sq_words.proofs.Prefixes.{prefix_along}
use Rattle.sq_words.proofs.Results.{OnErr_from}

pub loop-k-preserved : goal.loop-k-preserved
loop-k-preserved g c =
    let p = c.args.panes.now in
    let w = p.window in
    let moves = c.requires.window.moves in
    let none = g.F.Fold.none p.fold in
    let joined = g.F.Fold.joined p.fold in
    let told = g.F.Fold.told p.fold in
    let es = states_of p.held in
    let first = bounds_of c.args.waiting.now in
    let one = ended none joined w p.width first es in
    let k : ℕ = c.loop-k.k in
    let end : ℕ = c.args.end in
    let mid : ℕ = c.args.mid in
    let at : ℕ = start_of w k + 1 in
    let x = bounds_of c.loop-k.waiting in
    let out = g.T.Outlet.items c.loop-k.out in
    let lt : k < end = c.loop-k-test.true in
    let inv = c.loop-k.invariant in
    let e = c.in_ok-give_window.ensures in
    let before = c.requires.before k lt in
    let same = ended_same none joined w p.width x first es k (inv.allowed k (omega arith)) in
    let rest = flat_map one (range_with_len (k + 1) (end - (k + 1))) in
    let now = due_before told at x.waiting (one k) in
    let later = due_before told mid (marks_from at x.waiting) rest in
    let all = ap (due_before told mid x.waiting) (next_windows one k end lt) ∙ window_first none joined w moves p.width first es told mid k (end - (k + 1)) before x.waiting in
    record {
      given = λ q.
          ap (λ l. l ++ at_zero q (due_before told mid (bounds_of c.give_window.new.waiting).waiting rest)) (e.gives.given q)
          ∙ ap₂ (λ (y : Bounds) l. (given q out ++ at_zero q (due_before told at x.waiting l)) ++ at_zero q (due_before told mid y.waiting rest)) e.bounds same
          ∙ append_assoc (given q out) (at_zero q now) (at_zero q later)
          ∙ ap (λ l. given q out ++ l) (sym (at_zero-append q now later) ∙ ap (at_zero q) (sym all))
          ∙ inv.given q;
      closed = ap (closed_at mid) e.bounds ∙ closed_twice mid at (omega (arith, before)) x ∙ inv.closed;
      allowed = λ j lo.
          let rise = starts_rise w moves k j (omega (arith, lo)) in
          ap (λ (y : Bounds). bound_for y (start_of w j)) e.bounds ∙ sym (closed_bound (start_of w j) at (omega (arith, rise)) x) ∙ inv.allowed j (omega (arith, lo));
      marks = subst (λ (y : Bounds). AllByRecursion IsSoundMark y.waiting) (sym e.bounds) (All_from IsSoundMark at x.waiting inv.marks);
      sound = λ h. e.gives.sound (inv.sound h);
      extends = prefix_along _ _ _ inv.extends e.gives.extends;
      drops = e.gives.drops ∙ inv.drops;
      ready = e.gives.stays_ready;
      came = λ start h. e.gives.came start (inv.came start h);
    }

pub returns-in_err-give_window-clause-gives : goal.returns-in_err-give_window-clause-gives
returns-in_err-give_window-clause-gives g c =
    let p = c.args.panes.now in
    let w = p.window in
    let moves = c.requires.window.moves in
    let none = g.F.Fold.none p.fold in
    let joined = g.F.Fold.joined p.fold in
    let told = g.F.Fold.told p.fold in
    let es = states_of p.held in
    let first = bounds_of c.args.waiting.now in
    let one = ended none joined w p.width first es in
    let k : ℕ = c.loop-k.k in
    let end : ℕ = c.args.end in
    let mid : ℕ = c.args.mid in
    let at : ℕ = start_of w k + 1 in
    let x = bounds_of c.loop-k.waiting in
    let out = g.T.Outlet.items c.loop-k.out in
    let lt : k < end = c.loop-k-test.true in
    let inv = c.loop-k.invariant in
    let before = c.requires.before k lt in
    let same = ended_same none joined w p.width x first es k (inv.allowed k (omega arith)) in
    let rest = flat_map one (range_with_len (k + 1) (end - (k + 1))) in
    let now = due_before told at x.waiting (one k) in
    let later = due_before told mid (marks_from at x.waiting) rest in
    let all = ap (due_before told mid x.waiting) (next_windows one k end lt) ∙ window_first none joined w moves p.width first es told mid k (end - (k + 1)) before x.waiting in
    let r = c.from_residual in
    let e = c.in_err-give_window.ensures.gives in
    record {
      prefix = OnErr_from r.result (λ q.
          let gave = g.T.Outlet.items c.give_window.new.out in
          subst (IsPrefixOf (given q gave)) (ap (λ l. given q out ++ l) (sym (at_zero-append q now later) ∙ ap (at_zero q) (sym all)) ∙ inv.given q)
          (IsPrefixOf-longer (given q gave) (given q out) (at_zero q now) (at_zero q later)
          (subst (λ l. IsPrefixOf (given q gave) (given q out ++ at_zero q (due_before told at x.waiting l))) same (e.prefix q))));
      given = no_ok _ _ r.result r.ensures.1;
      sound = λ h. e.sound (inv.sound h);
      extends = prefix_along _ _ _ inv.extends e.extends;
      drops = e.drops ∙ inv.drops;
      stays_ready = no_ok _ _ r.result r.ensures.1;
      came = λ start h. e.came start (inv.came start h);
    }

pub returns-clause-bounds : goal.returns-clause-bounds
returns-clause-bounds g c = on_ok_weaker c.give_marks_before.result (λ e. e ∙ c.loop-k.invariant.closed) c.give_marks_before.ensures.bounds

pub returns-clause-gives : goal.returns-clause-gives
returns-clause-gives g c =
    let p = c.args.panes.now in
    let one = ended (g.F.Fold.none p.fold) (g.F.Fold.joined p.fold) p.window p.width (bounds_of c.args.waiting.now) (states_of p.held) in
    let k : ℕ = c.loop-k.k in
    let end : ℕ = c.args.end in
    let far : end ≤ k = omega arith in
    let told = g.F.Fold.told p.fold in
    let ms = (bounds_of c.loop-k.waiting).waiting in
    let over = sym (due_alone told c.args.mid ms) ∙ ap (due_before told c.args.mid ms) (sym (no_windows one k end far)) in
    let inv = c.loop-k.invariant in
    some-rest g.T.Outlet _ (λ q. at_zero q (map mark_thing (marks_before c.args.mid ms))) _ _ _ c.give_marks_before.result
    (λ q. ap (λ l. given q (g.T.Outlet.items c.loop-k.out) ++ at_zero q l) over ∙ inv.given q) inv.sound inv.extends inv.drops inv.came c.give_marks_before.ensures.gives
