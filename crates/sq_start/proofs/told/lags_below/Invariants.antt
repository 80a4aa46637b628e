use Rattle.std.proofs.Common.{◌≡◌, ◌-◌, map, take}
use Rattle.sq_start.proofs.told.lags_below.Given as goal
use Rattle.sq_points.specs.Above.{distance_of}

abbrev pub invariant-loop-arc : goal.invariant-loop-arc
invariant-loop-arc l = l.lags.items ≡ map (λ a. l.most - distance_of l.p a) (take l.arc-index l.arcs)
