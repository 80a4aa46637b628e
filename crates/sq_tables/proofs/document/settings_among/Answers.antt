use Rattle.std.proofs.Common.{◌∙◌, sym}
use Rattle.toml.specs.View.{array_view}
use Rattle.sq_tables.specs.Documents.{each_item}
use Rattle.sq_tables.specs.Shapes.{setting_in}
use Rattle.sq_tables.proofs.AmongLemmas.{item_at, front_none, front_more, front_stop, front_all}
use Rattle.sq_tables.proofs.document.settings_among.Goals as goal

pub loop-item-init : goal.loop-item-init
loop-item-init c = rw c.new-found.ensures.items (front_none (each_item setting_in (array_view c.args.items.now)))

pub loop-item-preserved : goal.loop-item-preserved
loop-item-preserved c =
    let at = item_at c.args.items.now.items c.deref-item-items.result.now c.deref-item-items.ensures.value c.loop-item.item-index c.item-item.result c.loop-item-test.true c.item-item.is in
    rw c.in_ok-push-in-Ok.ensures.items (front_more setting_in _ _ _ c.loop-item.found.items c.in-Ok.setting at c.in-Ok.ensures ∙ c.loop-item.invariant)

pub returns-in-Err-Shape : goal.returns-in-Err-Shape
returns-in-Err-Shape c =
    let at = item_at c.args.items.now.items c.deref-item-items.result.now c.deref-item-items.ensures.value c.loop-item.item-index c.item-item.result c.loop-item-test.true c.item-item.is in
    sym (front_stop setting_in _ _ _ c.loop-item.found.items at (c.in-Err-Shape.ensures c.in-Err-Shape.field-0-is)) ∙ c.loop-item.invariant

pub returns : goal.returns
returns c = sym (front_all setting_in c.args.items.now.items c.deref-item-items.result.now c.deref-item-items.ensures.value c.loop-item.item-index c.loop-item.found.items c.loop-item-test.false) ∙ c.loop-item.invariant
