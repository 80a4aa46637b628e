use Rattle.std.proofs.Common.{arith, refl}
use Rattle.sq_core.proofs.ShapeLemmas.{joined-whole}
use Rattle.sq_core.proofs.join.wires_of.Goals as goal

pub returns : goal.returns
returns c =
    let past = c.loop-actor-test.false in
    let upto = c.loop-actor.auto.actor-end in
    joined-whole c.args.sheds c.args.shown c.args.feeds.now c.args.order c.loop-actor.actor _ c.loop-actor.wires c.requires (omega (arith, past, upto)) c.loop-actor.invariant.0 c.loop-actor.invariant.1 refl refl refl refl
