use Rattle.std.proofs.Common.{◌≡◌, ℕ, ◌+◌, ◌-◌, ◌<◌, ◌++◌, ◌∷◌, drop, length, sym, ap, ◌∙◌, refl, arith, slice_get, Some}
use Rattle.std.proofs.lemmas.Option.{slice_get_read}
use Rattle.std.proofs.lemmas.List.{drop_more}
use Rattle.std.proofs.lemmas.Grind.{common_steps}
use Rattle.sq_join.specs.Indexes.{positions_in, positions_in_row}
use Rattle.sq_join.proofs.IndexLemmas.{row-pairs, row-within, tuples-step, pushed-step, standing_at}
use Rattle.sq_join.proofs.list.push_pairs_in_row.Goals as goal

pub loop-i-init : goal.loop-i-init
loop-i-init c =
    let index = c.args.index.now in
    let others = c.args.others.now.items in
    let is = c.requires.index in
    let low = c.requires.passing.0 in
    let at : positions_in_row index c.args.row ≡ c.index.result.now.items = ap positions_in (slice_get_read index.rows.items _ c.args.row c.index.result.now refl low c.index.ensures) in record {
      pairs = ap (λ l. c.args.out.now.items ++ l) (row-pairs c.args.on.now.tree c.args.side c.args.x.now others index c.args.row c.index.result.now.items is c.requires.passing at);
      within = row-within others index c.args.row c.index.result.now.items is low at;
    }

pub loop-i-preserved : goal.loop-i-preserved
loop-i-preserved c =
    let first = c.args.index.now.first in
    let others = c.args.others.now.items in
    let ps = c.index.result.now.items in
    let i = c.loop-i.i in
    let p = c.index-in-loop-i.result.now in
    let y = c.index-in-loop-i-2.result.now in
    let low : i < length ps = grind (arith, common_steps, c.loop-i-test.true, c.len-i-end.ensures) in
    let here : drop i ps ≡ p ∷ drop (i + 1) ps = drop_more ps i p low ∙ ap (λ (a : ℕ). a ∷ drop (i + 1) ps) (sym c.index-in-loop-i.ensures) in
    let now = rw here at c.loop-i.invariant.within in
    let got : slice_get others (p - first) ≡ Some y = slice_get_read others _ (p - first) y refl (omega (arith, now.0)) c.index-in-loop-i-2.ensures in record {
      pairs = pushed-step c.args.on.now.tree c.args.side c.args.x.now y (standing_at first others (drop (i + 1) ps)) (standing_at first others (drop i ps))
          c.loop-i.out.items c.push_pair.new.out.items _ (tuples-step first others ps i p y here got) c.in_ok-push_pair.ensures c.loop-i.invariant.pairs;
      within = now.1;
    }
