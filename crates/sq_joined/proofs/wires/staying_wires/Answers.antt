use Rattle.sq_joined.specs.Staying.{stream_moved}
use Rattle.sq_joined.specs.Joining.{rewired}
use Rattle.sq_joined.proofs.Steps.{staying_pushed}
use Rattle.sq_joined.proofs.wires.staying_wires.Goals as goal

pub loop-at-preserved : goal.loop-at-preserved
loop-at-preserved c =
    let low = rw c.as_slice-b-items.ensures at c.loop-at-test.true in
    let is = rw c.as_slice-b-items.ensures at c.b-item.is in
    staying_pushed (rewired (stream_moved c.args.w.now c.args.keep.now)) c.args.keep.now c.args.w.now.boxes c.loop-at.at c.b-item.result c.loop-at.out.items c.push_staying.new.out.items
    low is c.loop-at.invariant c.in_ok-push_staying.ensures
