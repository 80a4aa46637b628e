use Rattle.sq_slices.proofs.PlanLemmas.{plan-same-of}
use Rattle.sq_slices.proofs.laws.slices_plan_the_same.Goals as goal

pub returns : goal.returns
returns c r = plan-same-of r
