use Rattle.std.proofs.Common.{◌≡◌, ◌∙◌, ap, sym, ◌+◌, ◌-◌, ◌≤◌, refl, length, get_or, arith}
use Rattle.sq_value.specs.Texts.{is_digit}
use Rattle.sq_csv.proofs.FieldLemmas.{cut_few, digit_first, digits_cut}
use Rattle.sq_csv.proofs.LaneLemmas.{run_all, run_passes, run_short, run_stops}
use Rattle.sq_csv.proofs.fields.skip_digits.Goals as goal
use Rattle.sq_csv.proofs.fields.skip_digits.Goals.{then-run-eq0-via-then-run-eq0, then-run-eq0-via-else-run-eq0+then-run-eq-LANES}

pub overflow_add-result : goal.overflow_add-result
overflow_add-result c = record { fits = omega (arith, run_short is_digit c.args.text.now c.args.from _ (omega arith) c.digit_run-run.ensures) }

pub returns-clause-cut : goal.returns-clause-cut
returns-clause-cut c =
    let text = c.args.text.now in
    let from = c.args.from in
    let run = c.digit_run-run.result in
    let room : from + 16 ≤ length text = omega arith in
    let short = run_short is_digit text from run room c.digit_run-run.ensures in
    digits_cut 15 text from (from + run) _ (omega arith) (omega (arith, short)) (omega (arith, short)) (run_all is_digit text from run room c.digit_run-run.ensures) refl

pub returns-clause-all : goal.returns-clause-all
returns-clause-all c =
    let text = c.args.text.now in
    let from = c.args.from in
    let run = c.digit_run-run.result in
    let room : from + 16 ≤ length text = omega arith in
    run_stops is_digit text from run room c.digit_run-run.ensures (omega (arith, run_short is_digit text from run room c.digit_run-run.ensures))

pub returns-then-run-eq0-clause-none : goal.returns-then-run-eq0-clause-none
returns-then-run-eq0-clause-none c =
    let text = c.args.text.now in
    let from = c.args.from in
    let run = c.digit_run-run.result in
    λ none room number at cut.
    elim c.then-run-eq0.branch [
      | then-run-eq0-via-then-run-eq0 w ↦ absurd
          (let first = digit_first 15 text from number at cut in
          let stops = run_stops is_digit text from run room c.digit_run-run.ensures (omega (arith, w.if-run-eq0.true)) in
          let here : from + run ≡ from = omega (arith, w.if-run-eq0.true) in
          cc (sym first.2 ∙ sym (ap (λ i. is_digit (get_or text i 0)) here) ∙ stops))
      | then-run-eq0-via-else-run-eq0+then-run-eq-LANES w ↦
          (let few = cut_few 15 text from number at cut in
          let there : from + (at - from) ≡ at = omega (arith, few.0) in
          sym (ap (λ i. is_digit (get_or text i 0)) there) ∙ run_passes is_digit text from run (at - from) room c.digit_run-run.ensures (omega (arith, few.0, few.1, w.if-run-eq-LANES.true)))
    ]
