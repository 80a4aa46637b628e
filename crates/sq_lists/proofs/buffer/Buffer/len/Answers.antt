use Rattle.std.proofs.Common.{length, ap, arith}
use Rattle.sq_lists.proofs.BufferLemmas.{length-both}
use Rattle.sq_lists.proofs.buffer.Buffer.len.Goals as goal

pub returns : goal.returns
returns c = omega (arith, c.len.ensures, c.len-2.ensures.len, length-both c.self.inside.near.items c.self.inside.far.entries, ap length c.self.view_is)
