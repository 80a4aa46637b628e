use Rattle.sq_due.specs.Summaries.{drop_count_line}
use Rattle.sq_due.proofs.TextLemmas.{number_put, numbers_all}
use Rattle.sq_due.proofs.summing.put_drops.Goals as goal

pub drops-preserved : goal.drops-preserved
drops-preserved c = number_put c.args.drops.now c.drops.w drop_count_line c.drops-test.true _ _ _ c.in_ok-put_numbered.ensures c.drops.invariant

pub returns : goal.returns
returns c = rw (numbers_all c.args.drops.now c.drops.w c.drops-test.false) at c.drops.invariant
