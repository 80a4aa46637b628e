use Rattle.sq_intake.proofs.IntakeLemmas.{whole_take}
use Rattle.sq_intake.proofs.intake.whole_length.Goals as goal

pub returns-then-piece-at-eq10-clause-whole : goal.returns-then-piece-at-eq10-clause-whole
returns-then-piece-at-eq10-clause-whole c = whole_take c.args.piece.now c.loop-at.at 0 c.loop-at-test.true c.loop-at.invariant.within c.if-piece-at-eq10.true
