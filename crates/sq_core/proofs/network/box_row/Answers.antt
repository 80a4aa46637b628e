use Rattle.std.proofs.Common.{◌≡◌, ◌∙◌, ap, sym, arith, length, slice_get, refl, vec_len}
use Rattle.std.proofs.lemmas.Grind.{common_steps}
use Rattle.std.proofs.lemmas.Option.{slice_get_read}
use Rattle.sq_core.proofs.TableLemmas.{input-low}
use Rattle.sq_core.proofs.network.box_row.Goals as goal

pub arc_feed-requires-clause-there : goal.arc_feed-requires-clause-there
arc_feed-requires-clause-there c =
    let many : vec_len c.in_ok-arcs.arcs ≡ length c.in_ok-arcs.arcs.items = grind (arith, common_steps) in
    let low = c.loop-index-test.true in
    let len = c.len-index-end.ensures in
    let got = slice_get_read c.in_ok-arcs.arcs.items _ c.loop-index.index c.index-arc.result.now refl (omega (arith, low, len, many)) c.index-arc.ensures in
    input-low c.args.it.now.n.now c.args.at c.loop-index.index c.index-arc.result.now c.requires.there (ap (λ l. slice_get l c.loop-index.index) (sym c.in_ok-arcs.ensures) ∙ got)
