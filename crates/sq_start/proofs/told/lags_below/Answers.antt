use Rattle.std.proofs.Common.{arith}
use Rattle.sq_start.proofs.ToldLemmas.{max-at}
use Rattle.sq_start.proofs.told.lags_below.Goals as goal
use Rattle.sq_points.specs.Above.{distance_of}

pub overflow_sub-most : goal.overflow_sub-most
overflow_sub-most c =
    let least = max-at (distance_of c.args.p.now) c.args.arcs.now c.loop-arc.arc-index 0 c.loop-arc-test.true in
    let most = c.farthest-most.ensures in
    let here = c.distance_below.ensures in
    omega (arith, least, most, here)
