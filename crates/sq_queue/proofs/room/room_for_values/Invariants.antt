use Rattle.std.proofs.Common.{◌≡◌, ◌*◌, ◌≤◌, take}
use Rattle.std.specs.Prelude.{sum_by}
use Rattle.sq_queue.specs.Faces.{value_room}
use Rattle.sq_queue.proofs.room.room_for_values.Given as goal

abbrev pub invariant-loop-value : goal.invariant-loop-value
invariant-loop-value l = (l.room ≡ sum_by value_room (take l.value-index l.values)) × (l.room ≤ l.value-index * 257)
