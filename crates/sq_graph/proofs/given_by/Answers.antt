use Rattle.std.proofs.Common.{◌∙◌, sym}
use Rattle.sq_graph.proofs.Streams.{stream_of_source, stream_of_box, port_here, port_later}
use Rattle.sq_graph.proofs.given_by.Goals as goal

pub returns-then-stream-w : goal.returns-then-stream-w
returns-then-stream-w c = sym (stream_of_source c.args.w.now c.args.stream c.if-stream-w.true)

pub loop-at-init : goal.loop-at-init
loop-at-init c = sym (stream_of_box c.args.w.now c.args.stream c.if-stream-w.false)

pub returns-then-left-b : goal.returns-then-left-b
returns-then-left-b c =
    let low = rw c.as_slice-b-items.ensures at c.loop-at-test.true in
    let is = rw c.as_slice-b-items.ensures at c.b-item.is in
    sym (port_here c.args.w.now.boxes c.loop-at.at c.loop-at.left c.b-item.result low is c.if-left-b.true) ∙ c.loop-at.invariant

pub loop-at-preserved : goal.loop-at-preserved
loop-at-preserved c =
    let low = rw c.as_slice-b-items.ensures at c.loop-at-test.true in
    let is = rw c.as_slice-b-items.ensures at c.b-item.is in
    sym (port_later c.args.w.now.boxes c.loop-at.at c.loop-at.left c.b-item.result low is c.if-left-b.false) ∙ c.loop-at.invariant
