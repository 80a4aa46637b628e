use Rattle.sq_pairs.proofs.EqualLemmas.{IfOk-equates}
use Rattle.sq_pairs.proofs.condition.Condition.equated.Goals as goal

pub returns : goal.returns
returns c = IfOk-equates c.args.self.now.tree c.equated_fields.result (rw c.self.view_is at c.equated_fields.ensures)
