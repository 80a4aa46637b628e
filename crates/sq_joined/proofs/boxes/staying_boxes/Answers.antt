use Rattle.std.proofs.Common.{◌≡◌, ◌∙◌, ◌++◌, ap, sym, arith, length, drop, append-nil}
use Rattle.std.proofs.lemmas.Bool.Decides.{nat_tests}
use Rattle.sq_joined.proofs.Steps.{staying_none}
use Rattle.sq_joined.proofs.boxes.staying_boxes.Goals as goal

pub returns : goal.returns
returns c =
    let none : length c.loop-rest.rest.items ≡ 0 = grind (arith, nat_tests, c.is_empty.ensures, c.loop-rest-test.false) in
    sym (append-nil c.loop-rest.kept.items)
    ∙ ap (λ xs. c.loop-rest.kept.items ++ xs) (sym (staying_none (drop c.loop-rest.at c.args.keep.now) c.loop-rest.rest.items none))
    ∙ c.loop-rest.invariant.so_far
