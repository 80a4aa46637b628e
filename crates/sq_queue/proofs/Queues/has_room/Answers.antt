use Rattle.std.proofs.Common.{refl}
use Rattle.std.proofs.lemmas.Option.{slice_get_read}
use Rattle.sq_queue.proofs.Queues.has_room.Goals as goal

pub returns : goal.returns
returns c = let was = slice_get_read c.args.self.now.lanes.items _ c.args.arc c.index.result.now refl c.requires.there c.index.ensures in rw was c.has_room.ensures
