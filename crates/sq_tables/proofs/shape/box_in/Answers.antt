use Rattle.std.proofs.Common.{◌∙◌, ap, sym, rules, Some}
use Rattle.std.proofs.lemmas.Int.{to_z-of_z}
use mir.Syntax.{w64}
use mir.Val.{SFits}
use Rattle.toml.specs.View.{table_view}
use Rattle.sq_tables.specs.Readings.{IsUnreadTable}
use Rattle.sq_tables.specs.Shapes.{box_in}
use Rattle.sq_tables.proofs.EvenLemmas.{boxed}
use Rattle.sq_tables.proofs.BoxLemmas.{no_body, no_name, no_ins, no_cost, no_even, whole}
use Rattle.sq_tables.proofs.shape.box_in.Goals as goal

pub returns-in_err-body : goal.returns-in_err-body
returns-in_err-body c =
    let none : IsUnreadTable c.in_err-body.field-0.0 (box_in c.args.version (table_view c.args.table.now)) = λ is. no_body c.args.version (table_view c.args.table.now) (c.in_err-body.ensures is) in
    search rules

pub returns-in_err-name : goal.returns-in_err-name
returns-in_err-name c =
    let none : IsUnreadTable c.in_err-name.field-0.0 (box_in c.args.version (table_view c.args.table.now)) = λ is. no_name c.args.version (table_view c.args.table.now) c.in_ok-body.body c.in_ok-body.ensures (c.in_err-name.ensures is) in
    search rules

pub returns-in_err-ins : goal.returns-in_err-ins
returns-in_err-ins c =
    let none : IsUnreadTable c.in_err-ins.field-0.0 (box_in c.args.version (table_view c.args.table.now)) = λ is. no_ins c.args.version (table_view c.args.table.now) c.in_ok-body.body c.in_ok-name.name c.in_ok-body.ensures c.in_ok-name.ensures (c.in_err-ins.ensures is) in
    search rules

pub returns-in_err-cost : goal.returns-in_err-cost
returns-in_err-cost c =
    let none : IsUnreadTable c.in_err-cost.field-0.0 (box_in c.args.version (table_view c.args.table.now)) = λ is. no_cost c.args.version (table_view c.args.table.now) c.in_ok-body.body c.in_ok-name.name c.in_ok-ins.ins c.in_ok-body.ensures c.in_ok-name.ensures c.in_ok-ins.ensures (c.in_err-cost.ensures is) in
    search rules

pub returns-in_err-selectivity : goal.returns-in_err-selectivity
returns-in_err-selectivity c =
    let none : IsUnreadTable c.in_err-selectivity.field-0.0 (box_in c.args.version (table_view c.args.table.now)) = λ is. no_even c.args.version (table_view c.args.table.now) c.in_ok-body.body c.in_ok-name.name c.in_ok-ins.ins c.in_ok-cost.cost c.port_count.result c.port_count.ensures c.in_ok-body.ensures c.in_ok-name.ensures c.in_ok-ins.ensures c.in_ok-cost.ensures (c.in_err-selectivity.ensures is) in
    search rules

pub returns : goal.returns
returns c =
    let fits : SFits w64 c.in_ok-cost.cost = search rules in
    whole c.args.version (table_view c.args.table.now) c.in_ok-body.body c.in_ok-name.name c.in_ok-ins.ins c.in_ok-cost.cost c.in_ok-selectivity.selectivity c.port_count.result c.port_count.ensures c.in_ok-body.ensures c.in_ok-name.ensures c.in_ok-ins.ensures c.in_ok-cost.ensures c.in_ok-selectivity.ensures
    ∙ ap (λ z. Some (boxed c.in_ok-name.name c.in_ok-body.body c.in_ok-ins.ins z c.in_ok-selectivity.selectivity)) (sym (to_z-of_z w64 c.in_ok-cost.cost fits))
