use Rattle.std.proofs.Common.{◌∙◌, ◌/◌, [], arith}
use Rattle.std.specs.Fmt.{decimal}
use Rattle.std.proofs.lemmas.Fmt.{decimal_step}
use Rattle.sq_tap.proofs.Naming.{no_digits, nothing_left, one_digit, other_digit, same_digit}
use Rattle.sq_tap.proofs.names.+is_decimal.Goals as goal

pub returns-in_default : goal.returns-in_default
returns-in_default t c = no_digits c.args.number c.args.text.now c.ranges.number.fits c.in_default.ensures.cases

pub returns-then-last-number : goal.returns-then-last-number
returns-then-last-number t c =
    other_digit c.args.number c.args.text.now c.in-Some.front.now c.in-Some.last.now c.ranges.number.fits c.in-Some.ensures.cases.0 c.if-last-number.true

pub returns-then-number-lt10 : goal.returns-then-number-lt10
returns-then-number-lt10 t c =
    nothing_left c.in-Some.front.now c.is_empty.result c.is_empty.ensures
    ∙ same_digit c.args.number c.args.text.now c.in-Some.front.now [] c.in-Some.last.now (one_digit c.args.number c.if-number-lt10.true) c.in-Some.ensures.cases.0 c.if-last-number.false

pub returns : goal.returns
returns t c =
    let small = c.ranges.number.fits in
    let large = c.if-number-lt10.false in
    c.is_decimal.ensures
    ∙ same_digit c.args.number c.args.text.now c.in-Some.front.now (decimal (c.args.number / 10)) c.in-Some.last.now
    (decimal_step c.args.number large (omega (arith, small))) c.in-Some.ensures.cases.0 c.if-last-number.false
