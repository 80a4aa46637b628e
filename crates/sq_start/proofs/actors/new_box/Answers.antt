use Rattle.std.proofs.Common.{get_or}
use Rattle.sq_start.proofs.StartedLemmas.{box-started, node-there}
use Rattle.sq_start.proofs.actors.new_box.Goals as goal

pub returns : goal.returns
returns c =
    let n = c.args.n.now in
    let x = get_or c.as_slice.result.now c.args.b c.index-as_slice-b.result in
    let there = node-there n.boxes c.as_slice.result.now c.args.b c.index-as_slice-b.result c.as_slice.ensures c.requires.there in
    let new = c.in_ok-actor.ensures in
    box-started n c.args.b x c.in_ok-lags.lags.items c.in_ok-lags.marked c.in_ok-actor.actor there c.in_ok-lags.ensures.above c.in_ok-lags.ensures.lags new.starts new.decides new.fits new.takes new.reads
    (record { none = new.none; at_start = new.start; is_valid = new.valid })
