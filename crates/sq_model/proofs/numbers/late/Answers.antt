use Rattle.std.proofs.Common.{map}
use Rattle.sq_model.specs.FullCounts.{late_from}
use Rattle.sq_model.proofs.NumberLemmas.{numbered_more}
use Rattle.sq_model.proofs.numbers.late.Goals as goal

pub loop-at-preserved : goal.loop-at-preserved
loop-at-preserved c =
    numbered_more (late_from c.args.n.now (map (λ t. t.items) c.args.streams.now)) c.loop-at.at c.late_at.result c.loop-at.all.items c.push.new.self.items
    c.in_ok-push.ensures.items c.loop-at.invariant c.late_at.ensures
