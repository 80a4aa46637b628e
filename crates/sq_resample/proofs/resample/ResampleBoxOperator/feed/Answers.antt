use Rattle.std.proofs.Common.{◌≡◌, ℕ, ◌+◌, ◌++◌, [], List, length, Option, is_some, ap, ap₂, sym, ◌∙◌, append-nil, refl, rules, arith}
use Rattle.std.specs.Prelude.{if◌then◌else◌}
use Rattle.sq_value.specs.declared.Value.{Value}
use Rattle.sq_value.specs.declared.Tuple.{Tuple}
use Rattle.sq_lists.specs.Sides.{recent}
use Rattle.sq_oper.specs.Outflow.{given}
use Rattle.sq_oper.specs.Order.{time_of}
use Rattle.sq_oper.proofs.FedLemmas.{tuple_at, no_body, time-after-item}
use Rattle.sq_oper.proofs.GivingLemmas.{keeps-some, feeds-on}
use Rattle.sq_rounds.specs.Rounds.{first_time_from}
use Rattle.sq_resample.specs.Resampling.{resample_rest, resample_fits}
use Rattle.sq_resample.proofs.FedLemmas.{fed_early, fed_prefix, fed_law, fed_times, fed_held, fed_facts, length-recent, length-right}
use Rattle.sq_resample.proofs.resample.ResampleBoxOperator.feed.Goals as goal

pub give_ready-requires-clause-early : goal.give_ready-requires-clause-early
give_ready-requires-clause-early g c =
    let b = c.args.self.now in
    fed_early (g.F.Fold.table b.fold) (g.F.Fold.width b.fold) b.size b.waiting.items b.held.tuples.items b.tally.place c.args.port c.args.item c.in-Some.fields (sym c.get.ensures ∙ c.in-Some.is) c.requires.is_sound c.requires.may_come c.requires.is_valid.0

pub hold-requires-clause-few : goal.hold-requires-clause-few
hold-requires-clause-few g c =
    let b = c.args.self.now in
    let on = recent b.size c.args.item.time b.waiting.items in
    let few = length-recent b.size (first_time_from c.args.item.time on) b.held.tuples.items in
    let most = c.requires.is_valid.2 in
    let room = c.requires.has_room (ap is_some (sym c.get.ensures ∙ c.in-Some.is)) in
    let same = ap (λ (l : List Tuple). length l) c.in_ok-give_ready.ensures.held in
    omega (arith, few, most, room, same)

pub returns-in_err-give_ready : goal.returns-in_err-give_ready
returns-in_err-give_ready g c =
    let e = c.in_err-give_ready.ensures.gives in
    feeds-on g.T.Outlet _ c.from_residual.result c.from_residual.ensures.1
    (record {
      prefix =
          (let b = c.args.self.now in
          λ table future agrees may q.
          fed_prefix (g.F.Fold.table b.fold) (g.F.Fold.width b.fold) b.size b.waiting.items b.held.tuples.items b.tally.place c.args.port c.args.item c.in-Some.fields (sym c.get.ensures ∙ c.in-Some.is) c.requires.is_sound c.requires.may_come c.requires.is_valid.0
          future may q (given q (g.T.Outlet.items c.args.out.now)) (given q (g.T.Outlet.items c.give_ready.new.out)) (c.in_err-give_ready.ensures.gives.prefix q));
      decided_prefix = λ table future agrees may. ([], ap (λ l. l ++ []) (sym e.drops));
      no_cost = refl;
    })
    (keeps-some g.T.Outlet _ _ e)

pub returns-in_err-hold : goal.returns-in_err-hold
returns-in_err-hold g c =
    let e = c.in_ok-give_ready.ensures.gives in
    feeds-on g.T.Outlet _ c.from_residual-in_err-hold.result c.from_residual-in_err-hold.ensures.1
    (record {
      prefix =
          (let b = c.args.self.now in
          λ table future agrees may q.
          fed_prefix (g.F.Fold.table b.fold) (g.F.Fold.width b.fold) b.size b.waiting.items b.held.tuples.items b.tally.place c.args.port c.args.item c.in-Some.fields (sym c.get.ensures ∙ c.in-Some.is) c.requires.is_sound c.requires.may_come c.requires.is_valid.0
          future may q (given q (g.T.Outlet.items c.args.out.now)) (given q (g.T.Outlet.items c.give_ready.new.out))
          ([], sym (c.in_ok-give_ready.ensures.gives.given q) ∙ sym (append-nil (given q (g.T.Outlet.items c.give_ready.new.out)))));
      decided_prefix = λ table future agrees may. ([], ap (λ l. l ++ []) (sym e.drops));
      no_cost = refl;
    })
    (keeps-some g.T.Outlet _ _ e)

pub returns-in_ok-hold : goal.returns-in_ok-hold
returns-in_ok-hold g c =
    let e = c.in_ok-give_ready.ensures.gives in
    record {
      ok =
          record {
            law =
                (let b = c.args.self.now in
                let waiting = rw c.in_ok-give_ready.ensures.waiting at c.in_ok-hold.ensures.waiting in
                let held = rw c.in_ok-give_ready.ensures.held at c.in_ok-hold.ensures.held in
                λ table future agrees may q.
                fed_law (g.F.Fold.table b.fold) (g.F.Fold.width b.fold) b.size b.waiting.items b.held.tuples.items b.tally.place c.args.port c.args.item c.in-Some.fields (sym c.get.ensures ∙ c.in-Some.is) c.requires.is_sound c.requires.may_come c.requires.is_valid.0
                future may q (given q (g.T.Outlet.items c.args.out.now)) (given q (g.T.Outlet.items c.give_ready.new.out)) (c.in_ok-give_ready.ensures.gives.given q)
                ∙ ap₂ (λ (l r : List Tuple). given q (g.T.Outlet.items c.give_ready.new.out) ++ resample_rest (g.F.Fold.table b.fold) b.size l r future q) (sym waiting) (sym held));
            decided = λ table future agrees may. ap (λ l. l ++ []) (sym e.drops);
            loses = λ future. refl;
            times =
                (let b = c.args.self.now in
                λ table agrees q.
                fed_times (g.F.Fold.table b.fold) (g.F.Fold.width b.fold) b.size b.waiting.items b.held.tuples.items b.tally.place c.args.port c.args.item c.in-Some.fields (sym c.get.ensures ∙ c.in-Some.is) c.requires.is_sound c.requires.may_come c.requires.is_valid.0 q);
            held =
                (let b = c.args.self.now in
                let waiting = rw c.in_ok-give_ready.ensures.waiting at c.in_ok-hold.ensures.waiting in
                let held = rw c.in_ok-give_ready.ensures.held at c.in_ok-hold.ensures.held in
                λ table q.
                rw (waiting, held)
                (fed_held (g.F.Fold.table b.fold) (g.F.Fold.width b.fold) b.size b.waiting.items b.held.tuples.items b.tally.place c.args.port c.args.item c.in-Some.fields (sym c.get.ensures ∙ c.in-Some.is) c.requires.is_sound c.requires.may_come c.requires.is_valid.0 q));
            same_hold = λ time things near. near;
            settled = λ table. refl;
            stays_ready = e.stays_ready;
            stays_valid =
                (let b = c.args.self.now in
                let waiting = rw c.in_ok-give_ready.ensures.waiting at c.in_ok-hold.ensures.waiting in
                let held = rw c.in_ok-give_ready.ensures.held at c.in_ok-hold.ensures.held in
                let place : time_of c.note.new.self.place ≡ c.args.item.time = ap time_of c.note.ensures.place ∙ time-after-item b.tally.place c.args.port c.args.item c.in-Some.fields (sym c.get.ensures ∙ c.in-Some.is) in
                let one = ap {B = ℕ} (λ (o : Option (List Value)). if is_some o then 1 else 0) (sym c.get.ensures ∙ c.in-Some.is) in
                let taken : c.note.new.self.taken ≡ b.tally.taken + 1 = c.note.ensures.taken ∙ ap (λ n. b.tally.taken + n) one in
                let on = recent b.size c.args.item.time b.waiting.items in
                let kept = recent b.size (first_time_from c.args.item.time on) b.held.tuples.items in
                let longer = length-right c.args.port (tuple_at c.args.item.time c.in-Some.fields) kept in
                let few = length-recent b.size (first_time_from c.args.item.time on) b.held.tuples.items in
                let most = c.requires.is_valid.2 in
                let same = ap (λ (l : List Tuple). length l) held in (
                  (
                    rw (waiting, held, place)
                        (fed_facts (g.F.Fold.table b.fold) (g.F.Fold.width b.fold) b.size b.waiting.items b.held.tuples.items b.tally.place c.args.port c.args.item c.in-Some.fields (sym c.get.ensures ∙ c.in-Some.is) c.requires.is_sound c.requires.may_come c.requires.is_valid.0),
                    c.in_ok-hold.ensures.runs,
                    omega (arith, taken, longer, few, most, same),
                  ),
                  c.note.ensures.running ∙ c.requires.is_running,
                ));
            moves = c.note.ensures.place;
            same = (refl, refl);
            same_epoch = refl;
            counted = c.note.ensures.taken;
            cost = search rules;
          };
      err = tt;
      keeps = keeps-some g.T.Outlet _ _ e;
    }

pub returns-in_default : goal.returns-in_default
returns-in_default g c =
    let b = c.args.self.now in
    absurd (no_body (resample_fits (g.F.Fold.width b.fold)) b.tally.place c.args.port c.args.item (sym c.get.ensures ∙ c.in_default.is) c.requires.is_sound c.requires.may_come)
