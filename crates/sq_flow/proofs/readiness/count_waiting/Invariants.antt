use Rattle.std.proofs.Common.{◌≡◌, ◌-◌, ◌^◌, take, map}
use Rattle.std.specs.Prelude.{min, sum}
use Rattle.sq_queue.specs.Faces.{face}
use Rattle.sq_flow.proofs.readiness.count_waiting.Given as goal

abbrev pub invariant-loop-port : goal.invariant-loop-port
invariant-loop-port l = l.count ≡ min (2 ^ 64 - 1) (sum (map (λ arc. (face l.queues arc).count) (take l.port l.arcs.items)))
