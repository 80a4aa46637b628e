use Rattle.std.proofs.Common.{◌≡◌, ◌∙◌, ap, cond, slice_get, arith}
use Rattle.sq_graph.specs.Wires.{producers_of}
use Rattle.sq_joined.specs.Staying.{is_kept, passes}
use Rattle.sq_joined.proofs.Steps.{count_more, one_at_most}
use Rattle.sq_joined.proofs.wires.stream_moved.Goals as goal

pub loop-s-preserved : goal.loop-s-preserved
loop-s-preserved c =
    let more = count_more (is_kept c.args.keep.now) (producers_of c.args.w.now) c.loop-s.s in
    let one : c.kept_count-number.result ≡ cond (passes (is_kept c.args.keep.now) (slice_get (producers_of c.args.w.now) c.loop-s.s)) 1 0 =
    c.kept_count-number.ensures ∙ ap (λ p. cond (passes (is_kept c.args.keep.now) p) 1 0) c.given_by.ensures in
    let few = one_at_most (passes (is_kept c.args.keep.now) (slice_get (producers_of c.args.w.now) c.loop-s.s)) in
    let so_far = c.loop-s.invariant.counted in
    let low = c.loop-s.invariant.low in
    record { counted = omega (arith, more, one, so_far); low = omega (arith, one, few, low) }
