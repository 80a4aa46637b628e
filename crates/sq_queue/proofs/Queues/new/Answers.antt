use Rattle.std.proofs.Common.{sym, ◌∙◌}
use Rattle.sq_queue.proofs.TogetherLemmas.{new-together}
use Rattle.sq_queue.proofs.Queues.new.Goals as goal

pub returns-clause-together : goal.returns-clause-together
returns-clause-together c told = new-together _ told (c.in_ok-paged.ensures.together told) (c.in_ok-paged.ensures.size ∙ sym c.in_ok-lanes.ensures.size) c.in_ok-lanes.ensures.empty c.in_ok-paged.ensures.faces
