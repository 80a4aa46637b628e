use Rattle.std.proofs.Common.{length, ap, arith}
use Rattle.sq_queue.proofs.RoomLemmas.{few-values}
use Rattle.sq_queue.proofs.room.room_for.Goals as goal

pub room_for_values-requires : goal.room_for_values-requires
room_for_values-requires c = omega (arith, ap length c.as_slice.ensures, few-values c.args.item.now.body c.requires.body)
