use Rattle.std.proofs.Common.{◌∙◌}
use Rattle.sq_joined.proofs.TimeText.{checked_is, text_short}
use Rattle.sq_joined.proofs.boxes.not_before.Goals as goal

pub parse-requires : goal.parse-requires
parse-requires c = text_short c.as_str.result.now c.args.from (c.as_str.ensures.value ∙ c.in_ok-text.ensures) c.requires

pub returns-in-Ok-check : goal.returns-in-Ok-check
returns-in-Ok-check c =
    checked_is c.grammar_is_read.ensures c.values_are_read_back.ensures c.as_str.result.now c.in-Ok.ast c.args.scope.now c.args.from c.in-Ok-check.e _
    (c.as_str.ensures.value ∙ c.in_ok-text.ensures) c.requires c.in-Ok.ensures.ok c.in-Ok-check.ensures.ok c.in-Ok-check.ensures.scope
