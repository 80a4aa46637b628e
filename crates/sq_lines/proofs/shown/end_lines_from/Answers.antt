use Rattle.std.proofs.Common.{drop}
use Rattle.std.proofs.lemmas.List.{take_rest}
use Rattle.sq_lines.specs.RunLines.{boxes_from}
use Rattle.sq_lines.proofs.ShownLemmas.{boxes_lost, end_err, end_ok, lates_lost}
use Rattle.sq_lines.proofs.shown.end_lines_from.Goals as goal
use Rattle.sq_words.proofs.Results.{OnErr_from}

pub returns-in_err-append_boxes-clause-err : goal.returns-in_err-append_boxes-clause-err
returns-in_err-append_boxes-clause-err c =
    let lost = simp (c.as_slice-boxes.ensures, c.as_slice.ensures.value, take_rest) at c.in_err-append_boxes.ensures.err in
    OnErr_from c.from_residual.result
    (boxes_lost (boxes_from c.args.first c.args.n.now) (drop c.args.first c.args.fed.now.items) (drop c.args.first c.args.late.now.items) _ _ lost)

pub returns-in_err-append_lates-clause-err : goal.returns-in_err-append_lates-clause-err
returns-in_err-append_lates-clause-err c =
    let fed = simp (c.as_slice-boxes.ensures, c.as_slice.ensures.value, take_rest) at c.in_ok-append_boxes.ensures.ok in
    let late = simp (c.as_slice-boxes.ensures, c.as_slice-2.ensures.value, take_rest) at c.in_err-append_lates.ensures.err in
    OnErr_from c.from_residual-in_err-append_lates.result
    (lates_lost (boxes_from c.args.first c.args.n.now) (drop c.args.first c.args.fed.now.items) (drop c.args.first c.args.late.now.items) _ _ fed _ late)

pub returns-clause-ok : goal.returns-clause-ok
returns-clause-ok c =
    let fed = simp (c.as_slice-boxes.ensures, c.as_slice.ensures.value, take_rest) at c.in_ok-append_boxes.ensures.ok in
    let late = simp (c.as_slice-boxes.ensures, c.as_slice-2.ensures.value, take_rest) at c.in_ok-append_lates.ensures.ok in
    end_ok (boxes_from c.args.first c.args.n.now) (drop c.args.first c.args.fed.now.items) (drop c.args.first c.args.late.now.items) _ _ fed _ late c.append_end_line.result _ c.append_end_line.ensures.ok

pub returns-clause-err : goal.returns-clause-err
returns-clause-err c =
    let fed = simp (c.as_slice-boxes.ensures, c.as_slice.ensures.value, take_rest) at c.in_ok-append_boxes.ensures.ok in
    let late = simp (c.as_slice-boxes.ensures, c.as_slice-2.ensures.value, take_rest) at c.in_ok-append_lates.ensures.ok in
    end_err (boxes_from c.args.first c.args.n.now) (drop c.args.first c.args.fed.now.items) (drop c.args.first c.args.late.now.items) _ _ fed _ late c.append_end_line.result _ c.append_end_line.ensures.err
