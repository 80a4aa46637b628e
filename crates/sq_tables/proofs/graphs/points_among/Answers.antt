use Rattle.std.proofs.Common.{◌∙◌, sym}
use Rattle.sq_tables.specs.Shapes.{point_in}
use Rattle.toml.specs.View.{array_view}
use Rattle.sq_tables.specs.Documents.{each_item}
use Rattle.sq_tables.proofs.AmongLemmas.{item_at, front_none, front_more, front_stop, front_all}
use Rattle.sq_tables.proofs.graphs.points_among.Goals as goal

pub loop-item-init : goal.loop-item-init
loop-item-init c = rw c.new-found.ensures.items (front_none (each_item point_in (array_view c.args.items.now)))

pub loop-item-preserved : goal.loop-item-preserved
loop-item-preserved c =
    let at = item_at c.args.items.now.items c.deref-item-items.result.now c.deref-item-items.ensures.value c.loop-item.item-index c.item-item.result c.loop-item-test.true c.item-item.is in
    rw c.in_ok-push.ensures.items (front_more point_in _ _ _ c.loop-item.found.items c.in-Some.point at (sym c.point_in.ensures ∙ c.in-Some.is) ∙ c.loop-item.invariant)

pub returns-in_default : goal.returns-in_default
returns-in_default c =
    let at = item_at c.args.items.now.items c.deref-item-items.result.now c.deref-item-items.ensures.value c.loop-item.item-index c.item-item.result c.loop-item-test.true c.item-item.is in
    sym (front_stop point_in _ _ _ c.loop-item.found.items at (sym c.point_in.ensures ∙ c.in_default.is)) ∙ c.loop-item.invariant

pub returns : goal.returns
returns c = sym (front_all point_in c.args.items.now.items c.deref-item-items.result.now c.deref-item-items.ensures.value c.loop-item.item-index c.loop-item.found.items c.loop-item-test.false) ∙ c.loop-item.invariant
