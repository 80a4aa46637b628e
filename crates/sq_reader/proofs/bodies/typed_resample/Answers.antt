use Rattle.std.proofs.Common.{◌≡◌, ◌∙◌, sym, Some, None, arith}
use Rattle.std.proofs.lemmas.Result.{err_from_is_err_and}
use Rattle.sq_value.specs.Values.{names_of}
use Rattle.sq_net.specs.Columns.{first_columns}
use Rattle.sq_reader.specs.Columns.{bad_given, give_names}
use Rattle.sq_reader.proofs.PairLemmas.{left_length, left_names}
use Rattle.sq_reader.proofs.ResampleLemmas.{funcs_at_fault, names_at_fault, resampled, resampled_schema}
use Rattle.sq_reader.proofs.bodies.typed_resample.Goals as goal

pub bad_given-requires-clause-before : goal.bad_given-requires-clause-before
bad_given-requires-clause-before c =
    let left = c.first_of-left.result.now in
    let few = c.names.ensures.columns.few in
    let long = left_length left in
    rw (c.deref.ensures.value, c.in_ok-shown.ensures, c.names.ensures.value) (omega (arith, long, few))

pub schema_of-requires : goal.schema_of-requires
schema_of-requires c =
    let left = c.first_of-left.result.now in
    let right = c.second_of-right.result.now in
    let first = rw (c.deref.ensures.value, c.deref-2.ensures.value, c.in_ok-shown.ensures, c.names.ensures.value, c.in_ok-given.ensures) at c.bad_given.ensures.first in
    let good : bad_given (left_names (names_of left)) (give_names c.args.give.now) ≡ None = sym first ∙ c.in_default.is in
    rw (c.in_ok-names.ensures, c.in_ok-kinds.ensures, c.deref-3.ensures.value, c.deref-4.ensures.value, c.deref-6.ensures.value, c.in_ok-answered.ensures, c.deref-5.ensures.value, c.kinds.ensures, c.in_ok-shown.ensures, c.names.ensures.value, c.in_ok-given.ensures)
    (resampled_schema c.args.number left right c.args.give.now c.in_ok-funcs.funcs.items c.names.ensures.columns good c.in_ok-funcs.ensures.ok)

pub returns-in-Some-clause-err : goal.returns-in-Some-clause-err
returns-in-Some-clause-err c = λ _.
    let first = rw (c.deref.ensures.value, c.deref-2.ensures.value, c.in_ok-shown.ensures, c.names.ensures.value, c.first_of-left.ensures, c.in_ok-given.ensures) at c.bad_given.ensures.first in
    let bad : bad_given (left_names (names_of (first_columns c.args.ins.now))) (give_names c.args.give.now) ≡ Some c.in-Some.item = sym first ∙ c.in-Some.is in
    rw c.place_at.ensures (names_at_fault c.args.number c.args.size c.args.give.now c.args.ins.now c.in-Some.item bad)

pub returns-in_err-funcs-clause-err : goal.returns-in_err-funcs-clause-err
returns-in_err-funcs-clause-err c =
    let first = rw (c.deref.ensures.value, c.deref-2.ensures.value, c.in_ok-shown.ensures, c.names.ensures.value, c.first_of-left.ensures, c.in_ok-given.ensures) at c.bad_given.ensures.first in
    let good : bad_given (left_names (names_of (first_columns c.args.ins.now))) (give_names c.args.give.now) ≡ None = sym first ∙ c.in_default.is in
    let p = err_from_is_err_and c.from_residual-in_err-funcs.result c.from_residual-in_err-funcs.ensures.1 in
    rw (p.1, p.2) (λ known.
    let fault = c.in_err-funcs.ensures.err known in
    let there = rw c.second_of-right.ensures at fault in
    funcs_at_fault c.args.number c.args.size c.args.give.now c.args.ins.now c.in_err-funcs.field-0.0 good there)

pub returns-clause-ok : goal.returns-clause-ok
returns-clause-ok c =
    let first = rw (c.deref.ensures.value, c.deref-2.ensures.value, c.in_ok-shown.ensures, c.names.ensures.value, c.first_of-left.ensures, c.in_ok-given.ensures) at c.bad_given.ensures.first in
    let good : bad_given (left_names (names_of (first_columns c.args.ins.now))) (give_names c.args.give.now) ≡ None = sym first ∙ c.in_default.is in
    let funcs = rw c.second_of-right.ensures at c.in_ok-funcs.ensures.ok in
    rw (c.in_ok-ports.ensures, c.schema_of.ensures, c.in_ok-names.ensures, c.in_ok-kinds.ensures, c.deref-3.ensures.value, c.deref-4.ensures.value, c.deref-6.ensures.value, c.in_ok-answered.ensures, c.deref-5.ensures.value, c.kinds.ensures, c.in_ok-shown.ensures, c.names.ensures.value, c.in_ok-given.ensures, c.first_of-left.ensures, c.second_of-right.ensures, c.new.ensures)
    (resampled c.args.number c.args.size c.args.give.now c.args.ins.now c.in_ok-funcs.funcs.items good funcs)
