use Rattle.std.proofs.Common.{◌≡◌, ℕ, ◌<◌, ◌≤◌, ◌||◌, false}
use Rattle.sq_queue.specs.Faces.{face}
use Rattle.sq_flow.specs.Sends.{is_sent_by, KeepsItems}
use Rattle.sq_flow.proofs.flow.end_arcs.Given as goal

abbrev pub invariant-loop-arc : goal.invariant-loop-arc
invariant-loop-arc l =
    record {
      keeps : KeepsItems l.initial.queues l.queues;
      ended : (arc : ℕ) → arc < l.arc → (face l.queues arc).ended ≡ ((face l.initial.queues arc).ended || is_sent_by l.wires l.seat arc);
      later : (arc : ℕ) → l.arc ≤ arc → (face l.queues arc).ended ≡ (face l.initial.queues arc).ended;
      apart : (arc : ℕ) → is_sent_by l.wires l.seat arc ≡ false → face l.queues arc ≡ face l.initial.queues arc;
    }
