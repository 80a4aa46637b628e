use Rattle.std.proofs.Common.{arith, ap, sym, ◌∙◌}
use Rattle.std.specs.List.{list_all}
use Rattle.sq_value.specs.Texts.{is_digit}
use Rattle.sq_command.proofs.WordLemmas.{parsed_err, parsed_ok}
use Rattle.sq_command.proofs.words.number_in.Goals as goal

pub returns-in-Ok : goal.returns-in-Ok
returns-in-Ok c =
    parsed_ok c.args.text.now (omega arith) (sym (c.if-not-are_digits.ensures ∙ ap (list_all is_digit) c.as_bytes.ensures.value)) c.parse.result c.in-Ok.number c.parse.ensures.value.0 c.in-Ok.is

pub returns-in-Err : goal.returns-in-Err
returns-in-Err c =
    parsed_err c.args.text.now (omega arith) (sym (c.if-not-are_digits.ensures ∙ ap (list_all is_digit) c.as_bytes.ensures.value)) c.parse.result c.in-Err.field-0 c.parse.ensures.value.0 c.in-Err.is
