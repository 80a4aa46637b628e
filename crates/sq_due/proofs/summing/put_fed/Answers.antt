use Rattle.sq_lines.proofs.PairLemmas.{pairs_all}
use Rattle.sq_due.specs.Summaries.{fed_count}
use Rattle.sq_due.proofs.TextLemmas.{pair_put}
use Rattle.sq_due.proofs.summing.put_fed.Goals as goal

pub boxes-preserved : goal.boxes-preserved
boxes-preserved c =
    pair_put fed_count c.args.boxes.now c.args.fed.now c.requires.even c.boxes.i c.index-boxes-i.result c.boxes-test.true c.index-boxes-i.is _ _ _
    (rw c.as_str.ensures at c.in_ok-put_count.ensures) c.boxes.invariant

pub returns : goal.returns
returns c = rw (pairs_all c.args.boxes.now c.args.fed.now c.requires.even c.boxes.i c.boxes-test.false) at c.boxes.invariant
