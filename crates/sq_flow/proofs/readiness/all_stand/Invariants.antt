use Rattle.std.proofs.Common.{◌≡◌, true, take}
use Rattle.std.specs.List.{list_all}
use Rattle.sq_queue.specs.Faces.{face}
use Rattle.sq_flow.specs.Readiness.{stands}
use Rattle.sq_flow.proofs.readiness.all_stand.Given as goal

abbrev pub invariant-loop-port : goal.invariant-loop-port
invariant-loop-port l = list_all (λ arc. stands (face l.queues arc)) (take l.port l.arcs.items) ≡ true
