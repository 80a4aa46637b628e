use Rattle.std.proofs.Common.{◌≡◌, ◌==◌, drop, find, option_map}
use Rattle.std.specs.Prelude.{unwrap_or}
use Rattle.sq_points.proofs.above.distance_below.Given as goal
use Rattle.sq_points.specs.Above.{distance_of}

abbrev pub invariant-loop-d : goal.invariant-loop-d
invariant-loop-d l = distance_of l.p l.arc ≡ unwrap_or (option_map (λ d. d.1) (find (λ d. d.0 == l.arc) (drop l.d-index l.p.reach))) 0
