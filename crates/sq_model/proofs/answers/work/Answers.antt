use Rattle.std.proofs.Common.{map}
use Rattle.std.proofs.lemmas.Result.{IfOk-weaker}
use Rattle.sq_model.proofs.answers.work.Goals as goal

pub returns : goal.returns
returns c =
    IfOk-weaker c.work_in.result _ _
    (λ v h. h (record { network = c.args.n.now; sources = map (λ t. t.items) c.args.sources.now; entries = c.args.c.now; seed = c.args.seed }) c.in_ok-known.ensures.known)
    c.work_in.ensures
