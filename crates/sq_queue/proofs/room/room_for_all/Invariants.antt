use Rattle.std.proofs.Common.{◌≡◌, ◌*◌, ◌≤◌, take}
use Rattle.sq_queue.specs.Faces.{rooms_of}
use Rattle.sq_queue.proofs.room.room_for_all.Given as goal

abbrev pub invariant-loop-at : goal.invariant-loop-at
invariant-loop-at l = (l.room ≡ rooms_of (take l.at l.front.items)) × (l.room ≤ l.at * 4130)
