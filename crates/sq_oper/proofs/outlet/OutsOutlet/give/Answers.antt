use Rattle.std.proofs.Common.{◌++◌, ◌∷◌, [], ap, ◌∙◌}
use Rattle.sq_oper.proofs.outlet.OutsOutlet.give.Goals as goal

pub returns-clause-extends : goal.returns-clause-extends
returns-clause-extends c =
    ((c.args.port, c.args.item) ∷ [], c.push_reserved.ensures.items ∙ ap (λ items. items ++ (c.args.port, c.args.item) ∷ []) c.reserve.ensures.items)
