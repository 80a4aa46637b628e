use Rattle.std.proofs.Common.{ℕ, ◌≡◌, ◌++◌, true, map, ap, sym, subst, ◌∙◌, append_assoc, append-nil}
use Rattle.std.specs.List.{AllByRecursion}
use Rattle.sq_oper.specs.Outflow.{given}
use Rattle.sq_oper.specs.Streams.{at_zero}
use Rattle.sq_oper.proofs.GivingLemmas.{none-went, some-rest}
use Rattle.sq_oper.proofs.StreamLemmas.{at_zero-append, at_zero-nil}
use Rattle.sq_tagged.specs.TaggedStreams.{mark_thing}
use Rattle.sq_agg.specs.Holdings.{Bounds, IsSoundMark, bounds_of, closed_at, first_slot, later_slots, mark_due, marks_before}
use Rattle.sq_agg.proofs.DueLemmas.{All_later, closed_same, closed_step, first_marks, marks_none}
use Rattle.sq_agg.proofs.waiting.give_marks_before.Goals as goal
use Rattle.sq_words.proofs.Prefixes.{prefix_along}

pub loop-waiting-preserved : goal.loop-waiting-preserved
loop-waiting-preserved g c =
    let mid : ℕ = c.args.mid in
    let b = bounds_of c.loop-waiting.waiting in
    let inv = c.loop-waiting.invariant in
    let e = c.in_ok-hand_on.ensures in
    let out = g.T.Outlet.items c.loop-waiting.out in
    let due : mark_due mid b.waiting ≡ true = sym c.is_mark_due.ensures ∙ c.loop-waiting-test.true in
    let first = map mark_thing (first_slot b.waiting) in
    let later = map mark_thing (marks_before mid (later_slots b.waiting)) in
    let both : map mark_thing (marks_before mid b.waiting) ≡ first ++ later = first_marks mid b.waiting due in
    record {
      given = λ q.
          ap (λ l. l ++ at_zero q (map mark_thing (marks_before mid (bounds_of c.hand_on.new.self).waiting))) (e.gives.given q)
          ∙ ap (λ (x : Bounds). (given q out ++ at_zero q first) ++ at_zero q (map mark_thing (marks_before mid x.waiting))) e.bounds
          ∙ append_assoc (given q out) (at_zero q first) (at_zero q later)
          ∙ ap (λ l. given q out ++ l) (sym (at_zero-append q first later) ∙ ap (at_zero q) (sym both))
          ∙ inv.given q;
      closed = ap (closed_at mid) e.bounds ∙ sym (closed_step mid b due) ∙ inv.closed;
      marks = subst (λ (x : Bounds). AllByRecursion IsSoundMark x.waiting) (sym e.bounds) (All_later IsSoundMark b.waiting inv.marks);
      sound = λ h. e.gives.sound (inv.sound h);
      extends = prefix_along _ _ _ inv.extends e.gives.extends;
      drops = e.gives.drops ∙ inv.drops;
      ready = e.gives.stays_ready;
      came = λ start h. e.gives.came start (inv.came start h);
    }

pub returns-in_err-hand_on-clause-gives : goal.returns-in_err-hand_on-clause-gives
returns-in_err-hand_on-clause-gives g c =
    let inv = c.loop-waiting.invariant in
    let r = c.from_residual in
    let rest = map mark_thing (marks_before c.args.mid (bounds_of c.loop-waiting.waiting).waiting) in
    some-rest g.T.Outlet _ (λ q. at_zero q rest) _ _ _ r.result inv.given inv.sound inv.extends inv.drops inv.came
    (none-went g.T.Outlet _ _ (λ q. at_zero q rest) _ _ _ r.result r.ensures.1 c.in_err-hand_on.ensures.gives)

pub returns-clause-bounds : goal.returns-clause-bounds
returns-clause-bounds g c =
    let b = bounds_of c.loop-waiting.waiting in
    closed_same c.args.mid b (marks_none c.args.mid b.waiting (sym c.is_mark_due.ensures ∙ c.loop-waiting-test.false)) ∙ c.loop-waiting.invariant.closed

pub returns-clause-gives : goal.returns-clause-gives
returns-clause-gives g c =
    let b = bounds_of c.loop-waiting.waiting in
    let out = g.T.Outlet.items c.loop-waiting.out in
    let none = marks_none c.args.mid b.waiting (sym c.is_mark_due.ensures ∙ c.loop-waiting-test.false) in
    let inv = c.loop-waiting.invariant in
    record {
      prefix = tt;
      given = λ q. sym (append-nil (given q out)) ∙ ap (λ l. given q out ++ l) (sym (ap (λ ms. at_zero q (map mark_thing ms)) none ∙ at_zero-nil q)) ∙ inv.given q;
      sound = inv.sound;
      extends = inv.extends;
      drops = inv.drops;
      stays_ready = inv.ready;
      came = inv.came;
    }
