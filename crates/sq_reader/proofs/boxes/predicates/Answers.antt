use Rattle.std.proofs.Common.{◌∙◌, sym}
use Rattle.sq_reader.specs.Expressions.{may_be_predicate}
use Rattle.sq_reader.proofs.ExpressionLemmas.{typed_more, typed_stop}
use Rattle.sq_reader.proofs.boxes.predicates.Goals as goal

pub loop-item-preserved : goal.loop-item-preserved
loop-item-preserved c =
    rw c.in_ok-push-in-Ok.ensures
    (typed_more c.args.number c.loop-item.item may_be_predicate c.args.scope.now c.loop-item.typed.items c.args.asts.now c.index-asts-item.result c.in-Ok.e c.loop-item-test.true c.index-asts-item.is c.in-Ok.ensures ∙ c.loop-item.invariant)

pub returns-in-Err-clause-err : goal.returns-in-Err-clause-err
returns-in-Err-clause-err c = λ kept.
    sym c.loop-item.invariant
    ∙ typed_stop c.args.number c.loop-item.item may_be_predicate c.args.scope.now c.loop-item.typed.items c.args.asts.now c.index-asts-item.result c.in-Err.e c.loop-item-test.true c.index-asts-item.is (c.in-Err.ensures kept)
