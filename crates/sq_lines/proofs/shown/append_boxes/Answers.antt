use Rattle.std.proofs.Common.{◌++◌, append_assoc, ap, sym, ◌∙◌, take, get_or}
use Rattle.std.specs.List.{flat_map, zip}
use Rattle.sq_lines.specs.RunLines.{fed_line}
use Rattle.sq_lines.proofs.PairLemmas.{pairs_all, pairs_text-more, part_so_far}
use Rattle.sq_lines.proofs.shown.append_boxes.Goals as goal
use Rattle.sq_words.proofs.Results.{OnErr_from}

pub returns-in_err-append_box_line-clause-err : goal.returns-in_err-append_box_line-clause-err
returns-in_err-append_box_line-clause-err c = OnErr_from c.from_residual.result (part_so_far fed_line (zip c.args.boxes.now c.args.fed.now) c.boxes.i _ _ _ c.boxes.invariant c.in_err-append_box_line.ensures.err)

pub boxes-preserved : goal.boxes-preserved
boxes-preserved c =
    let line = fed_line (c.index-boxes-i.result, get_or c.args.fed.now c.boxes.i 0) in
    c.in_ok-append_box_line.ensures.ok
    ∙ ap (λ t. t ++ line) c.boxes.invariant
    ∙ append_assoc c.args.out.now.items (flat_map fed_line (take c.boxes.i (zip c.args.boxes.now c.args.fed.now))) line
    ∙ ap (λ t. c.args.out.now.items ++ t) (sym (pairs_text-more c.args.boxes.now c.args.fed.now c.requires.even c.boxes.i c.index-boxes-i.result c.boxes-test.true c.index-boxes-i.is fed_line))

pub returns-clause-ok : goal.returns-clause-ok
returns-clause-ok c = rw (pairs_all c.args.boxes.now c.args.fed.now c.requires.even c.boxes.i c.boxes-test.false) at c.boxes.invariant
