use Rattle.std.proofs.Common.{◌∙◌, ap, sym, Some}
use Rattle.std.specs.Option.{option_copied}
use Rattle.toml.specs.Data.{as_str}
use Rattle.toml.specs.View.{array_view}
use Rattle.sq_tables.specs.Documents.{each_item}
use Rattle.sq_tables.proofs.AmongLemmas.{item_at, front_none, front_more, front_stop, front_all}
use Rattle.sq_tables.proofs.document.texts_among.Goals as goal

pub loop-item-init : goal.loop-item-init
loop-item-init c = rw c.new-found.ensures.items (front_none (each_item as_str (array_view c.args.items.now)))

pub loop-item-preserved : goal.loop-item-preserved
loop-item-preserved c =
    let at = item_at c.args.items.now.items c.deref-item-items.result.now c.deref-item-items.ensures.value c.loop-item.item-index c.item-item.result c.loop-item-test.true c.item-item.is in
    rw c.in_ok-push.ensures.items (front_more as_str _ _ _ c.loop-item.found.items c.in_ok-new.field-0 at (sym c.as_str.ensures ∙ (ap option_copied c.in-Some.is ∙ ap (λ t. Some t) (sym c.in_ok-new.ensures))) ∙ c.loop-item.invariant)

pub returns-in_default : goal.returns-in_default
returns-in_default c =
    let at = item_at c.args.items.now.items c.deref-item-items.result.now c.deref-item-items.ensures.value c.loop-item.item-index c.item-item.result c.loop-item-test.true c.item-item.is in
    sym (front_stop as_str _ _ _ c.loop-item.found.items at (sym c.as_str.ensures ∙ ap option_copied c.in_default.is)) ∙ c.loop-item.invariant

pub returns : goal.returns
returns c = sym (front_all as_str c.args.items.now.items c.deref-item-items.result.now c.deref-item-items.ensures.value c.loop-item.item-index c.loop-item.found.items c.loop-item-test.false) ∙ c.loop-item.invariant
