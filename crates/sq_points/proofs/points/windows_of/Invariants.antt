use Rattle.std.proofs.Common.{◌≡◌, map, take}
use Rattle.sq_points.specs.Points.{window_in}
use Rattle.sq_points.proofs.points.windows_of.Given as goal

abbrev pub invariant-loop-node : goal.invariant-loop-node
invariant-loop-node l = l.windows.items ≡ map (λ b. window_in b.body) (take l.node-index l.n.boxes)
