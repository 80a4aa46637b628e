use Rattle.sq_queue.proofs.TogetherLemmas as lemmas
use Rattle.sq_queue.proofs.fronts_are_bounded.Goals as goal

pub returns : goal.returns
returns c = record { bounded = lemmas.bounded }
