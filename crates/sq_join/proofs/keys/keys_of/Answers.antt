use Rattle.std.proofs.Common.{arith, refl}
use Rattle.std.proofs.lemmas.Grind.{common_steps}
use Rattle.std.proofs.lemmas.Option.{slice_get_read}
use Rattle.sq_words.proofs.Alls.{all_at}
use Rattle.sq_pairs.specs.EqualPlaces.{Equates}
use Rattle.sq_join.proofs.keys.keys_of.Goals as goal

pub loop-i-preserved : goal.loop-i-preserved
loop-i-preserved c =
    let on = c.args.on.now.tree in
    let pairs = c.in_ok-pairs.pairs.items in
    let at = slice_get_read pairs _ c.loop-i.i c.index.result.now refl (grind (arith, common_steps, c.loop-i-test.true, c.len-i-end.ensures)) c.index.ensures in
    c.in_ok-add.ensures on (all_at (Equates on) pairs c.loop-i.i c.index.result.now c.in_ok-pairs.ensures at) c.loop-i.invariant
