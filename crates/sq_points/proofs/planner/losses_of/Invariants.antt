use Rattle.std.proofs.Common.{◌≡◌, map, take}
use Rattle.sq_points.specs.Losses.{losses_in}
use Rattle.sq_points.proofs.planner.losses_of.Given as goal

abbrev pub invariant-loop-point : goal.invariant-loop-point
invariant-loop-point l = l.losses.items ≡ map (λ p. losses_in l.table p.outputs) (take l.point-index l.points)
