use Rattle.std.proofs.Common.{◌/◌, ◌<◌, subst}
use Rattle.sq_model.proofs.BatchLemmas.{untouched, first_least}
use Rattle.sq_model.proofs.drops.first_batch.Goals as goal

pub returns-in-len1-up-clause-untouched : goal.returns-in-len1-up-clause-untouched
returns-in-len1-up-clause-untouched c = λ b lt.
    untouched c.args.p.now c.args.tuples.now c.x-item.result.time b c.requires.measured.least
    (first_least c.args.tuples.now c.x-item.result c.requires.stream c.in-len1-up.len_at_least c.x-item.is)
    (subst (λ z. b < z / c.args.p.now.length) c.saturating_sub.ensures lt)
