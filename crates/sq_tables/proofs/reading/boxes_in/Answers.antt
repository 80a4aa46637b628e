use Rattle.std.proofs.Common.{◌∙◌, ◌+◌, ap, sym, drop, map}
use Rattle.std.specs.Prelude.{Err}
use Rattle.toml.specs.View.{table_view}
use Rattle.sq_net.specs.declared.Part.TheVariants as part
use Rattle.sq_tables.specs.Tables.{shaped_from}
use Rattle.sq_tables.specs.Shapes.{box_in}
use Rattle.sq_tables.proofs.ShapedLemmas.{joined, map-drop, shaped_all, shaped_more, shaped_stop}
use Rattle.sq_tables.proofs.reading.boxes_in.Goals as goal

pub loop-number-preserved : goal.loop-number-preserved
loop-number-preserved c =
    let more = map-drop (λ t. table_view t.now) c.args.tables.now c.loop-number.number c.index-tables-number.result c.loop-number-test.true c.index-tables-number.is in
    rw c.in_ok-push-in-Ok.ensures
    (shaped_more part.Box (box_in c.args.version) c.loop-number.number c.loop-number.found.items (table_view c.index-tables-number.result.now) (map (λ t. table_view t.now) (drop (c.loop-number.number + 1) c.args.tables.now)) c.in-Ok.item c.in-Ok.ensures
    ∙ (ap (λ ts. joined c.loop-number.found.items (shaped_from part.Box (box_in c.args.version) c.loop-number.number ts)) (sym more) ∙ c.loop-number.invariant))

pub returns-in-Err-clause-err : goal.returns-in-Err-clause-err
returns-in-Err-clause-err c kept =
    let fault = c.unshaped.ensures kept in
    let more = map-drop (λ t. table_view t.now) c.args.tables.now c.loop-number.number c.index-tables-number.result c.loop-number-test.true c.index-tables-number.is in
    sym c.loop-number.invariant
    ∙ (ap (λ ts. joined c.loop-number.found.items (shaped_from part.Box (box_in c.args.version) c.loop-number.number ts)) more
    ∙ (shaped_stop part.Box (box_in c.args.version) c.loop-number.number c.loop-number.found.items (table_view c.index-tables-number.result.now) (map (λ t. table_view t.now) (drop (c.loop-number.number + 1) c.args.tables.now)) (c.in-Err.ensures fault.0)
    ∙ ap (λ e. Err e) (sym fault.1)))

pub returns-clause-ok : goal.returns-clause-ok
returns-clause-ok c = sym c.loop-number.invariant ∙ shaped_all part.Box (box_in c.args.version) (λ t. table_view t.now) c.args.tables.now c.loop-number.number c.loop-number.found.items c.loop-number-test.false
