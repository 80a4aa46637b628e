use Rattle.std.proofs.Common.{map}
use Rattle.sq_top.proofs.SourceLemmas.{recorded_even, recorded_few, recorded_fit, recorded_streams, recorded_tuples}
use Rattle.sq_top.proofs.running.start.Goals as goal

pub replaying-requires : goal.replaying-requires
replaying-requires c =
    let n = c.args.accepted.network in
    let recorded = c.requires.recorded in
    record {
      sound = c.requires.sound;
      limits = c.requires.limits;
      lists = recorded_even n.sources (map (λ xs. xs.items) c.args.accepted.sources.items) recorded;
      streams = recorded_streams n.sources _ recorded;
      tuples = recorded_tuples n.sources _ recorded;
      few = recorded_few n.sources _ recorded;
      fit = recorded_fit n _ recorded;
      frames = c.requires.frames;
    }
