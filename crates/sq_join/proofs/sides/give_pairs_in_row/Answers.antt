use Rattle.std.proofs.Common.{◌≡◌, ℕ, ◌+◌, ◌-◌, ◌<◌, ◌++◌, ◌∷◌, drop, length, sym, ap, ◌∙◌, refl, arith, rules, slice_get, Some}
use Rattle.std.proofs.lemmas.Option.{slice_get_read}
use Rattle.std.proofs.lemmas.List.{drop_more}
use Rattle.std.proofs.lemmas.Grind.{common_steps}
use Rattle.sq_oper.specs.Outflow.{given}
use Rattle.sq_oper.specs.Streams.{IsSoundTuple, things, at_zero}
use Rattle.sq_lists.specs.Sides.{pair_at, pairs_with}
use Rattle.sq_join.specs.Indexes.{positions_in, positions_in_row}
use Rattle.sq_join.proofs.IndexLemmas.{row-pairs, row-all, row-within, tuples-step, given-step, standing_at}
use Rattle.sq_join.proofs.sides.give_pairs_in_row.Goals as goal
use Rattle.sq_oper.proofs.GivingLemmas.{none-went, some-rest}
use Rattle.sq_words.proofs.Prefixes.{prefix_along}

pub loop-i-init : goal.loop-i-init
loop-i-init g c =
    let index = c.args.index.now in
    let others = c.args.others.now.items in
    let is = c.requires.index in
    let low = c.requires.passing.0 in
    let at : positions_in_row index c.args.row ≡ c.index.result.now.items = ap positions_in (slice_get_read index.rows.items _ c.args.row c.index.result.now refl low c.index.ensures) in record {
      given = λ q. ap (λ l. given q (g.T.Outlet.items c.args.out.now) ++ at_zero q (things l))
          (row-pairs c.args.on.now.tree c.args.side c.args.x.now others index c.args.row c.index.result.now.items is c.requires.passing at);
      pairs = row-all (λ y. IsSoundTuple (pair_at c.args.side c.args.x.now y)) others index c.args.row c.index.result.now.items is low at c.requires.sound;
      within = row-within others index c.args.row c.index.result.now.items is low at;
      sound = search rules;
      extends = search rules;
      drops = search rules;
      ready = c.requires.is_ready;
      came = search rules;
    }

pub returns-in_err-give_pair : goal.returns-in_err-give_pair
returns-in_err-give_pair g c =
    let inv = c.loop-i.invariant in
    let r = c.from_residual in
    let left = λ (q : ℕ). at_zero q (things (pairs_with c.args.on.now.tree c.args.side c.args.x.now (standing_at c.args.index.now.first c.args.others.now.items (drop c.loop-i.i c.index.result.now.items)))) in
    some-rest g.T.Outlet _ left _ _ _ r.result inv.given inv.sound inv.extends inv.drops inv.came
    (none-went g.T.Outlet _ _ left _ _ _ r.result r.ensures.1 c.in_err-give_pair.ensures)

pub loop-i-preserved : goal.loop-i-preserved
loop-i-preserved g c =
    let on = c.args.on.now.tree in
    let side = c.args.side in
    let x = c.args.x.now in
    let first = c.args.index.now.first in
    let others = c.args.others.now.items in
    let ps = c.index.result.now.items in
    let i = c.loop-i.i in
    let p = c.index-in-loop-i.result.now in
    let y = c.index-in-loop-i-2.result.now in
    let low : i < length ps = grind (arith, common_steps, c.loop-i-test.true, c.len-i-end.ensures) in
    let here : drop i ps ≡ p ∷ drop (i + 1) ps = drop_more ps i p low ∙ ap (λ (a : ℕ). a ∷ drop (i + 1) ps) (sym c.index-in-loop-i.ensures) in
    let now = rw here at c.loop-i.invariant.within in
    let got : slice_get others (p - first) ≡ Some y = slice_get_read others _ (p - first) y refl (omega (arith, now.0)) c.index-in-loop-i-2.ensures in
    let step = tuples-step first others ps i p y here got in
    let gave = c.in_ok-give_pair.ensures in
    let was = c.loop-i.invariant in record {
      given = λ q.
          given-step on side x y (standing_at first others (drop (i + 1) ps)) (standing_at first others (drop i ps)) q
          (given q (g.T.Outlet.items c.loop-i.out)) (given q (g.T.Outlet.items c.give_pair.new.out)) _ step (gave.given q) (was.given q);
      pairs = (rw step at was.pairs).1;
      within = now.1;
      sound = λ s. gave.sound (was.sound s);
      extends = prefix_along (g.T.Outlet.items c.args.out.now) (g.T.Outlet.items c.loop-i.out) (g.T.Outlet.items c.give_pair.new.out) was.extends gave.extends;
      drops = gave.drops ∙ was.drops;
      ready = gave.stays_ready;
      came = λ start h. gave.came start (was.came start h);
    }
