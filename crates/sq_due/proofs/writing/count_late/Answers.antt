use Rattle.sq_core.specs.Runs.{late_at_seat}
use Rattle.sq_model.proofs.NumberLemmas.{numbered_more}
use Rattle.sq_due.proofs.writing.count_late.Goals as goal

pub loop-at-preserved : goal.loop-at-preserved
loop-at-preserved c =
    numbered_more (late_at_seat c.args.engine.now) c.loop-at.at c.late.result c.loop-at.late.items c.push.new.self.items c.in_ok-push.ensures.items c.loop-at.invariant c.late.ensures
