use Rattle.sq_lines.proofs.ShownLemmas.{boxes_lost, end_err, end_ok, lates_lost}
use Rattle.sq_lines.proofs.shown.end_lines.Goals as goal
use Rattle.sq_words.proofs.Results.{OnErr_from}

pub returns-in_err-append_boxes-clause-err : goal.returns-in_err-append_boxes-clause-err
returns-in_err-append_boxes-clause-err c =
    OnErr_from c.from_residual.result
    (boxes_lost c.args.n.now c.args.fed.now.items c.args.late.now.items _ _ (rw (c.as_slice.ensures, c.as_slice-2.ensures.value) at c.in_err-append_boxes.ensures.err))

pub returns-in_err-append_lates-clause-err : goal.returns-in_err-append_lates-clause-err
returns-in_err-append_lates-clause-err c =
    let fed = rw (c.as_slice.ensures, c.as_slice-2.ensures.value) at c.in_ok-append_boxes.ensures.ok in
    let late = rw (c.as_slice-3.ensures, c.as_slice-4.ensures.value) at c.in_err-append_lates.ensures.err in
    OnErr_from c.from_residual-in_err-append_lates.result (lates_lost c.args.n.now c.args.fed.now.items c.args.late.now.items _ _ fed _ late)

pub returns-clause-ok : goal.returns-clause-ok
returns-clause-ok c =
    let fed = rw (c.as_slice.ensures, c.as_slice-2.ensures.value) at c.in_ok-append_boxes.ensures.ok in
    let late = rw (c.as_slice-3.ensures, c.as_slice-4.ensures.value) at c.in_ok-append_lates.ensures.ok in
    end_ok c.args.n.now c.args.fed.now.items c.args.late.now.items _ _ fed _ late c.append_end_line.result _ c.append_end_line.ensures.ok

pub returns-clause-err : goal.returns-clause-err
returns-clause-err c =
    let fed = rw (c.as_slice.ensures, c.as_slice-2.ensures.value) at c.in_ok-append_boxes.ensures.ok in
    let late = rw (c.as_slice-3.ensures, c.as_slice-4.ensures.value) at c.in_ok-append_lates.ensures.ok in
    end_err c.args.n.now c.args.fed.now.items c.args.late.now.items _ _ fed _ late c.append_end_line.result _ c.append_end_line.ensures.err
