use Rattle.std.proofs.Common.{None, refl}
use Rattle.sq_place.proofs.Numbering.{numbered_more}
use Rattle.sq_slices.proofs.rounds.no_reaches.Goals as goal

pub loop-stream-preserved : goal.loop-stream-preserved
loop-stream-preserved c = numbered_more (λ s. None) c.loop-stream._stream None c.loop-stream.reaches.items c.push.new.self.items c.in_ok-push.ensures.items c.loop-stream.invariant refl
