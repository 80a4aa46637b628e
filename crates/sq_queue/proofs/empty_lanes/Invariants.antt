use Rattle.std.proofs.Common.{◌≡◌, ℕ, length}
use Rattle.std.specs.Prelude.{slice_get}
use Rattle.sq_queue.specs.Faces.{IsEmpty}
use Rattle.sq_queue.proofs.empty_lanes.Given as goal

abbrev pub invariant-loop-arc : goal.invariant-loop-arc
invariant-loop-arc l =
    record {
      len : length l.lanes.items ≡ l._arc;
      empty : (arc : ℕ) → IsEmpty (slice_get l.lanes.items arc);
    }
