use Rattle.sq_queue.specs.Faces.{face}
use Rattle.sq_heads.specs.Heads.{NextUpTo}
use Rattle.sq_heads.proofs.next_of.Given as goal

abbrev pub invariant-loop-port : goal.invariant-loop-port
invariant-loop-port l = NextUpTo l.arcs (λ arc. (face l.queues arc).first) (λ arc. (face l.queues arc).ended) l.port l.best
