use Rattle.sq_core.specs.Runs.{fed_at}
use Rattle.sq_model.proofs.NumberLemmas.{numbered_more}
use Rattle.sq_due.proofs.writing.count_fed.Goals as goal

pub loop-at-preserved : goal.loop-at-preserved
loop-at-preserved c =
    numbered_more (fed_at c.args.engine.now) c.loop-at.at c.fed.result c.loop-at.fed.items c.push.new.self.items c.in_ok-push.ensures.items c.loop-at.invariant c.fed.ensures
