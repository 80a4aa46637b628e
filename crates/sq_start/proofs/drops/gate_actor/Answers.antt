use Rattle.sq_start.proofs.DropFacts.{output-starts}
use Rattle.sq_start.proofs.drops.gate_actor.Goals as goal

pub returns-clause-starts : goal.returns-clause-starts
returns-clause-starts c =
    let law = c.early_drop_is_sound.ensures in
    output-starts law.ready law.widen _ _ _ c.args.length c.new.ensures.marked c.new.ensures.takes_marks c.new.ensures.fits
