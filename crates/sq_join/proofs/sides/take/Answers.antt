use Rattle.sq_lists.specs.Sides.{left_with, right_with}
use Rattle.sq_oper.proofs.GivingLemmas.{some-on}
use Rattle.sq_join.proofs.IndexLemmas.{OnOk-held}
use Rattle.sq_join.proofs.sides.take.Goals as goal

pub returns-clause-indexes : goal.returns-clause-indexes
returns-clause-indexes g c =
    let sides = c.args.sides.now in
    OnOk-held c.hold.result c.args.on.now.tree c.push_last.new.indexes (left_with c.args.side c.args.x sides.left.items) _ (right_with c.args.side c.args.x sides.right.items) _
    c.hold.ensures.left c.hold.ensures.right (c.push_last.ensures c.args.on.now.tree c.requires.indexes)

pub returns-in_err-meet-clause-gives : goal.returns-in_err-meet-clause-gives
returns-in_err-meet-clause-gives g c = some-on g.T.Outlet _ _ _ _ _ c.from_residual.result c.from_residual.ensures.1 c.in_err-meet.ensures
