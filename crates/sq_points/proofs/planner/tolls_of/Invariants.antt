use Rattle.std.proofs.Common.{◌≡◌, map, take}
use Rattle.sq_points.proofs.planner.tolls_of.Given as goal

abbrev pub invariant-loop-node : goal.invariant-loop-node
invariant-loop-node l = l.tolls.items ≡ map (λ b. record { cost = b.cost; selectivity = b.selectivity }) (take l.node-index l.n.boxes)
