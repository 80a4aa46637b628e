use Rattle.std.proofs.Common.{rules}
use Rattle.sq_start.proofs.ToldLemmas.{max-step}
use Rattle.sq_start.proofs.told.farthest.Goals as goal
use Rattle.sq_points.specs.Above.{distance_of}

pub loop-arc-preserved : goal.loop-arc-preserved
loop-arc-preserved c = max-step (distance_of c.args.p.now) c.args.arcs.now c.loop-arc.arc-index c.loop-arc.most c.distance_below.result c.max-most.result c.loop-arc-test.true c.loop-arc.invariant c.distance_below.ensures (search rules)
