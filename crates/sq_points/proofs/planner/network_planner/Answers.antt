use Rattle.std.proofs.Common.{sym, subst, ◌∙◌, ◌≡◌, IfOk}
use Rattle.sq_plan.specs.Plans.{Setting}
use Rattle.sq_plan.specs.Settings.{IsPlannable}
use Rattle.sq_points.specs.Losses.{AreFalls}
use Rattle.sq_points.proofs.Plannable.{weights, plannable, given-is}
use Rattle.sq_points.proofs.planner.network_planner.Goals as goal

pub loss_table-requires : goal.loss_table-requires
loss_table-requires c = weights c.args.n.now c.requires.sound

pub new-requires : goal.new-requires
new-requires c =
    subst IsPlannable
    (sym (given-is c.args.n.now c.in_ok-tolls.tolls.items c.args.points.now.items _ _ c.in_ok-losses.losses.items c.args.capacities.now c.in_ok-tolls.ensures c.requires.points
    (c.deref-2.ensures.value ∙ c.requires.points) (c.deref.ensures.value ∙ c.in_ok-table.ensures.table) c.in_ok-losses.ensures))
    (plannable c.args.n.now c.requires.sound (subst AreFalls c.in_ok-table.ensures.table c.in_ok-table.ensures.falls) c.args.capacities.now)

pub returns : goal.returns
returns c =
    subst (λ (s : Setting). IfOk c.new.result (λ p. p ≡ s))
    (given-is c.args.n.now c.in_ok-tolls.tolls.items c.args.points.now.items _ _ c.in_ok-losses.losses.items c.args.capacities.now c.in_ok-tolls.ensures c.requires.points
    (c.deref-2.ensures.value ∙ c.requires.points) (c.deref.ensures.value ∙ c.in_ok-table.ensures.table) c.in_ok-losses.ensures)
    c.new.ensures
