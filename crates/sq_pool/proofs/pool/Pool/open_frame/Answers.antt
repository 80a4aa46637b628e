use Rattle.std.proofs.Common.{arith}
use Rattle.sq_words.specs.Lists.{nth}
use Rattle.sq_pool.proofs.PoolLemmas.{no-frame, opened, length-filled}
use Rattle.sq_pool.proofs.pool.Pool.open_frame.Goals as goal

pub occupy-requires-clause-out : goal.occupy-requires-clause-out
occupy-requires-clause-out c = no-frame c.self.inside.frames c.self.inside.slots.order c.args.page (rw (← c.self.view_is) at c.requires.out)

pub overflow_add-self : goal.overflow_add-self
overflow_add-self c = record { fits = omega (arith, c.self.invariant.1, c.self.invariant.3, rw (← c.self.view_is) at c.requires.room, length-filled c.self.inside.frames c.self.inside.slots.order) }

pub returns : goal.returns
returns c = (nth c.self.inside.frames c.occupy.result, rw (c.occupy.ensures.after, ← c.self.view_is) (opened c.self.inside.slots c.self.inside.frames c.args.page c.occupy.result))
