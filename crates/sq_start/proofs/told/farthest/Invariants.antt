use Rattle.std.proofs.Common.{◌≡◌, take}
use Rattle.sq_words.specs.Lists.{max_by}
use Rattle.sq_start.proofs.told.farthest.Given as goal
use Rattle.sq_points.specs.Above.{distance_of}

abbrev pub invariant-loop-arc : goal.invariant-loop-arc
invariant-loop-arc l = l.most ≡ max_by (distance_of l.p) (take l.arc-index l.arcs)
