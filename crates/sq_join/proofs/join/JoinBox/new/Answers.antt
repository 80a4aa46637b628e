use Rattle.std.proofs.Common.{◌∙◌}
use Rattle.sq_join.specs.Sides.{join_rest}
use Rattle.sq_join.proofs.JoinLemmas.{join_new}
use Rattle.sq_join.proofs.join.JoinBox.new.Goals as goal

pub returns-clause-list : goal.returns-clause-list
returns-clause-list c =
    rw c.of-on.ensures (λ table future q may.
    (λ i. join_rest c.args.size c.args.on.tree (c.new.ensures.0 i) (c.new.ensures.1 i) future q)
    ∙ join_new c.args.size c.args.on.tree c.args.on.scope future q may)
