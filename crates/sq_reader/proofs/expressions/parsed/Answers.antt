use Rattle.std.proofs.Common.{◌∙◌}
use Rattle.sq_rules.specs.Limits.{is_expression_long}
use Rattle.sq_rules.proofs.ListLemmas.{item_passes}
use Rattle.sq_reader.proofs.LimitLemmas.{expression_few}
use Rattle.sq_reader.proofs.ExpressionLemmas.{parsed_more}
use Rattle.sq_reader.proofs.expressions.parsed.Goals as goal

pub loop-item-preserved : goal.loop-item-preserved
loop-item-preserved c =
    let read = rw c.as_str.ensures at c.in_ok-ast.ensures in
    rw c.in_ok-push.ensures
    (parsed_more c.args.number c.loop-item.item c.loop-item.asts.items c.args.texts.now c.index-texts-item.result c.in_ok-ast.ast c.loop-item-test.true c.index-texts-item.is read ∙ c.loop-item.invariant)

pub expression_in-requires-clause-length : goal.expression_in-requires-clause-length
expression_in-requires-clause-length c =
    rw c.as_str.ensures (expression_few c.index-texts-item.result (item_passes is_expression_long c.args.texts.now c.loop-item.item c.index-texts-item.result c.requires.long c.loop-item-test.true c.index-texts-item.is))
