use Rattle.sq_lines.proofs.PairLemmas.{pairs_all}
use Rattle.sq_due.specs.Summaries.{output_count}
use Rattle.sq_due.proofs.TextLemmas.{pair_put}
use Rattle.sq_due.proofs.summing.put_outputs.Goals as goal

pub outputs-preserved : goal.outputs-preserved
outputs-preserved c =
    pair_put output_count c.args.outputs.now c.args.lines.now c.requires.even c.outputs.i c.index-outputs-i.result c.outputs-test.true c.index-outputs-i.is _ _ _
    (rw c.as_str.ensures at c.in_ok-put_count.ensures) c.outputs.invariant

pub returns : goal.returns
returns c = rw (pairs_all c.args.outputs.now c.args.lines.now c.requires.even c.outputs.i c.outputs-test.false) at c.outputs.invariant
