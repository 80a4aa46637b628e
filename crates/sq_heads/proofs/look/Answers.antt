use Rattle.std.proofs.Common.{◌∙◌, sym}
use Rattle.sq_heads.proofs.HeadLemmas.{ended-more, head-ended}
use Rattle.sq_heads.proofs.look.Goals as goal

pub returns-in-Ended : goal.returns-in-Ended
returns-in-Ended c = λ arcs first ended is same h.
    ended-more arcs first ended c.args.port c.args.arc c.args.best is (head-ended (ended c.args.arc) (first c.args.arc) (sym c.in-Ended.is ∙ same)) h
