use Rattle.std.proofs.Common.{◌∙◌, ap, sym, ◌/◌, take, drop, arith}
use lib.Count.{count_trailing_zeros}
use Rattle.sq_value.specs.Texts.{number_in}
use Rattle.sq_csv.proofs.DigitLemmas.{eight_at, first_here, first_flagged, lanes_are, none_flagged, shifted_is}
use Rattle.sq_csv.proofs.digits.up_to_eight.Goals as goal

pub returns-then-others-eq0-clause-count : goal.returns-then-others-eq0-clause-count
returns-then-others-eq0-clause-count c =
    let bytes = take 8 (drop c.args.at c.args.text.now) in
    let eight = eight_at c.args.text.now c.args.at c.type_inv.text c.requires in
    let flags = c.flags_of_others-others.ensures bytes eight (lanes_are bytes c.word_at-lanes.result eight c.word_at-lanes.ensures) in
    none_flagged bytes c.flags_of_others-others.result eight flags c.if-others-eq0.true

pub returns-clause-count : goal.returns-clause-count
returns-clause-count c =
    let bytes = take 8 (drop c.args.at c.args.text.now) in
    let eight = eight_at c.args.text.now c.args.at c.type_inv.text c.requires in
    let flags = c.flags_of_others-others.ensures bytes eight (lanes_are bytes c.word_at-lanes.result eight c.word_at-lanes.ensures) in
    first_flagged bytes c.flags_of_others-others.result eight flags c.if-others-eq0.false

pub returns-clause-number : goal.returns-clause-number
returns-clause-number c =
    let bytes = take 8 (drop c.args.at c.args.text.now) in
    let eight = eight_at c.args.text.now c.args.at c.type_inv.text c.requires in
    let lanes = lanes_are bytes c.word_at-lanes.result eight c.word_at-lanes.ensures in
    let flags = c.flags_of_others-others.ensures bytes eight lanes in
    let first = first_flagged bytes c.flags_of_others-others.result eight flags c.if-others-eq0.false in
    λ few.
    let shifted = shifted_is bytes (count_trailing_zeros 64 c.flags_of_others-others.result / 8) c.keep_first.result eight (omega (arith, first)) (omega (arith, few)) (c.keep_first.ensures ∙ rw lanes) in
    c.value_of_eight.ensures shifted.0 shifted.1 shifted.2 ∙ shifted.3 ∙ sym (ap number_in (first_here c.args.text.now c.args.at (count_trailing_zeros 64 c.flags_of_others-others.result / 8) (omega (arith, few))))
