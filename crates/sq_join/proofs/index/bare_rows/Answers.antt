use Rattle.std.proofs.Common.{arith}
use Rattle.std.proofs.lemmas.Grind.{common_steps}
use Rattle.sq_join.proofs.IndexLemmas.{rows-push}
use Rattle.sq_join.proofs.index.bare_rows.Goals as goal

pub loop-row-preserved : goal.loop-row-preserved
loop-row-preserved c = record {
  len = grind (arith, common_steps, c.loop-row.invariant.len);
  bare = rows-push c.loop-row.rows.items c.push.new.self.items c.new.result c.in_ok-push.ensures.items c.new.ensures.items c.loop-row.invariant.bare;
}
