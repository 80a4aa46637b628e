use Rattle.std.proofs.Common.{◌≡◌, ◌∙◌, ap, ◌<◌, ◌≤◌, ◌+◌, ◌-◌, ◌%◌, refl, length, get_or, lit<, arith}
use Rattle.std.proofs.lemmas.List.Edits.{between_none}
use Rattle.sq_value.specs.Texts.{is_digit}
use Rattle.sq_value.proofs.NumberLemmas.{next_below}
use Rattle.sq_csv.proofs.FieldLemmas.{digit_behind, digit_first, digit_small, digits_cut, no_digit, passes_more, number_on}
use Rattle.sq_csv.proofs.fields.cut_each_digit.Goals as goal
use Rattle.sq_csv.proofs.fields.cut_each_digit.Goals.{else-loop-at-test, then-loop-at-test+then-digit-gt9}

pub overflow_mul-number : goal.overflow_mul-number
overflow_mul-number c =
    let l = c.loop-at in
    let next = next_below l.number 0 (l.at - c.args.from) c.args.most l.invariant.below (omega arith) (omega arith) c.requires.few in
    omega (arith, next)

pub overflow_add-number : goal.overflow_add-number
overflow_add-number c =
    let l = c.loop-at in
    let next = next_below l.number 9 (l.at - c.args.from) c.args.most l.invariant.below (omega arith) (omega arith) c.requires.few in
    omega (arith, c.from-digit.ensures, c.if-digit-gt9.false, next)

pub loop-at-init : goal.loop-at-init
loop-at-init c =
    let from = c.args.from in
    let none = between_none c.args.text.now from in
    let no_digit : from - from ≡ 0 = omega arith in
    record {
      digits = rw none refl;
      so_far = rw none refl;
      below = rw no_digit (lit< tt);
      ahead = omega arith;
      few = omega arith;
      within = c.requires.within;
    }

pub loop-at-preserved : goal.loop-at-preserved
loop-at-preserved c =
    let text = c.args.text.now in
    let from = c.args.from in
    let l = c.loop-at in
    let few : l.at < from + c.args.most = omega (arith, c.min-end.ensures, c.loop-at-test.true) in
    let within : l.at < length text = omega (arith, c.min-end.ensures, c.loop-at-test.true) in
    let behind = (c.from-digit.result + 18446744073709551568) % 18446744073709551616 in
    let small : behind ≤ 9 = omega (arith, c.if-digit-gt9.false) in
    let byte : get_or text l.at 0 < 256 = (c.type_inv.text l.at).fits in
    let digit = digit_behind (get_or text l.at 0) c.from-digit.result byte c.from-digit.ensures small in
    let next = next_below l.number behind (l.at - from) c.args.most l.invariant.below small (omega arith) c.requires.few in
    let one_more : l.at + 1 - from ≡ l.at - from + 1 = omega arith in
    record {
      digits = passes_more is_digit text from l.at l.invariant.digits l.invariant.ahead within digit.0;
      so_far = number_on text from l.at l.number behind l.invariant.so_far l.invariant.ahead within digit.1;
      below = rw one_more next.0;
      ahead = omega arith;
      few = omega (arith, few);
      within = omega (arith, within);
    }

pub returns-clause-cut : goal.returns-clause-cut
returns-clause-cut c =
    let l = c.loop-at in
    let i = l.invariant in
    digits_cut c.args.most c.args.text.now c.args.from l.at l.number (omega (arith, i.ahead)) i.few i.within i.digits i.so_far

pub returns-then-at-from-clause-none : goal.returns-then-at-from-clause-none
returns-then-at-from-clause-none c =
    let text = c.args.text.now in
    let from = c.args.from in
    let l = c.loop-at in
    let still : l.at ≡ from = c.if-at-from.true in
    λ none number at cut.
    let first = digit_first c.args.most text from number at cut in
    elim c.loop-at-test.branch [
      | else-loop-at-test w ↦ absurd (omega (arith, c.min-end.ensures, w.loop-at-test.false, still, first.0, first.1))
      | then-loop-at-test+then-digit-gt9 w ↦ absurd
          (let small = digit_small (get_or text from 0) w.from-digit.result first.2 (w.from-digit.ensures ∙ ap (λ i. get_or text i 0) still) in omega (arith, small, w.if-digit-gt9.true))
    ]

pub returns-clause-all : goal.returns-clause-all
returns-clause-all c =
    let text = c.args.text.now in
    let l = c.loop-at in
    λ few within.
    elim c.loop-at-test.branch [
      | else-loop-at-test w ↦ absurd (omega (arith, c.min-end.ensures, w.loop-at-test.false, few, within))
      | then-loop-at-test+then-digit-gt9 w ↦ no_digit (get_or text l.at 0) w.from-digit.result w.from-digit.ensures (omega (arith, w.if-digit-gt9.true))
    ]
