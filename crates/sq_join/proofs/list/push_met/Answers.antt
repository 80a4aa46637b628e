use Rattle.std.proofs.Common.{◌++◌, ap, sym, ◌∙◌, append-nil}
use Rattle.sq_lists.specs.Sides.{against}
use Rattle.sq_join.proofs.IndexLemmas.{pairs-none}
use Rattle.sq_join.proofs.list.push_met.Goals as goal

pub push_pairs_in_row-requires-clause-passing : goal.push_pairs_in_row-requires-clause-passing
push_pairs_in_row-requires-clause-passing c =
    let sides = c.args.sides.now in
    rw (c.against.ensures, c.against-others.ensures)
    (c.in-InRow.ensures c.args.on.now.tree sides.left.items sides.right.items (rw c.in-Some.is at c.requires))

pub returns-in-Nobody : goal.returns-in-Nobody
returns-in-Nobody c =
    let sides = c.args.sides.now in
    let on = c.args.on.now.tree in
    let alone = c.in-Nobody.ensures on sides.left.items sides.right.items (rw c.in-Some.is at c.requires) in
    let none = pairs-none on c.args.side c.args.x.now (against c.args.side sides.left.items sides.right.items) alone in
    sym (ap (λ l. c.args.out.now.items ++ l) none ∙ append-nil c.args.out.now.items)
