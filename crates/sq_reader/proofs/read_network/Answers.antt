use Rattle.sq_reader.proofs.SoundLemmas.{read_sound}
use Rattle.sq_reader.proofs.read_network.Goals as goal

pub limited_network-requires : goal.limited_network-requires
limited_network-requires c = read_sound c.in_ok-raw.raw c.in_ok-network.network c.in_ok-raw.ensures.even c.in_ok-network.ensures
