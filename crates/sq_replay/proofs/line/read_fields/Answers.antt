use Rattle.std.proofs.Common.{◌≡◌, ◌+◌, ◌-◌, ◌∙◌, sym, length, arith}
use Rattle.std.proofs.lemmas.Result.{err_from_is_err_and}
use Rattle.sq_replay.proofs.FieldsLemmas.{no_text, no_tick, other_count, others_text, too_soon, tuple_off, tuple_on}
use Rattle.sq_replay.proofs.line.read_fields.Goals as goal

pub returns-in_default-clause-refused : goal.returns-in_default-clause-refused
returns-in_default-clause-refused c =
    other_count c.args.kinds.now c.args.latest c.args.fields.now (λ (e : length c.args.fields.now ≡ length c.args.kinds.now + 1). omega (arith, c.in_default.len_below))

pub returns-then-others-kinds-clause-refused : goal.returns-then-others-kinds-clause-refused
returns-then-others-kinds-clause-refused c =
    other_count c.args.kinds.now c.args.latest c.args.fields.now (λ (e : length c.args.fields.now ≡ length c.args.kinds.now + 1). c.if-others-kinds.true (omega (arith, e)))

pub returns-then-not-are_text-clause-refused : goal.returns-then-not-are_text-clause-refused
returns-then-not-are_text-clause-refused c =
    no_text c.args.kinds.now c.args.latest c.args.fields.now (omega (arith, c.if-others-kinds.false)) (sym c.are_text.ensures ∙ c.if-not-are_text.true)

pub returns-in_default-read_short_number-clause-refused : goal.returns-in_default-read_short_number-clause-refused
returns-in_default-read_short_number-clause-refused c =
    no_tick c.args.kinds.now c.args.latest c.args.fields.now _ (omega (arith, c.if-others-kinds.false)) (sym c.are_text.ensures ∙ c.if-not-are_text.false) (sym c.read_short_number.ensures ∙ c.in_default-read_short_number.is)

pub returns-then-time-latest-clause-refused : goal.returns-then-time-latest-clause-refused
returns-then-time-latest-clause-refused c =
    too_soon c.args.kinds.now c.args.latest c.args.fields.now _ c.in-Some.time (omega (arith, c.if-others-kinds.false)) (sym c.are_text.ensures ∙ c.if-not-are_text.false) (sym c.read_short_number.ensures ∙ c.in-Some.is)
    c.if-time-latest.true

pub read_values-requires-clause-texts : goal.read_values-requires-clause-texts
read_values-requires-clause-texts c = others_text (length c.args.fields.now - 1) c.args.fields.now (omega arith) (sym c.are_text.ensures ∙ c.if-not-are_text.false)

pub returns-in_err-values-clause-refused : goal.returns-in_err-values-clause-refused
returns-in_err-values-clause-refused c =
    let p = err_from_is_err_and c.from_residual.result c.from_residual.ensures.1 in
    rw (p.1, p.2)
    (tuple_off c.in_err-values.field-0.0 c.args.kinds.now c.args.latest c.args.fields.now _ c.in-Some.time (length c.args.fields.now - 1) (omega (arith, c.if-others-kinds.false)) (sym c.are_text.ensures ∙ c.if-not-are_text.false)
    (sym c.read_short_number.ensures ∙ c.in-Some.is) c.if-time-latest.false (omega arith) c.in_err-values.ensures.refused)

pub returns-clause-tuple : goal.returns-clause-tuple
returns-clause-tuple c =
    rw c.new.ensures
    (tuple_on c.args.kinds.now c.args.latest c.args.fields.now _ c.in-Some.time (length c.args.fields.now - 1) c.in_ok-values.values.items (omega (arith, c.if-others-kinds.false)) (sym c.are_text.ensures ∙ c.if-not-are_text.false)
    (sym c.read_short_number.ensures ∙ c.in-Some.is) c.if-time-latest.false (omega arith) c.in_ok-values.ensures.values)
