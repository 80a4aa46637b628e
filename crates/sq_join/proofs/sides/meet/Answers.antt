use Rattle.std.proofs.Common.{refl, ◌++◌, ap, sym, ◌∙◌, append-nil}
use Rattle.sq_words.proofs.Prefixes.{prefix_itself}
use Rattle.sq_oper.specs.Outflow.{given}
use Rattle.sq_oper.specs.Streams.{things, at_zero}
use Rattle.sq_oper.proofs.StreamLemmas.{at_zero-nil}
use Rattle.sq_lists.specs.Sides.{against}
use Rattle.sq_join.proofs.IndexLemmas.{pairs-none}
use Rattle.sq_join.proofs.sides.meet.Goals as goal

pub give_pairs_in_row-requires-clause-passing : goal.give_pairs_in_row-requires-clause-passing
give_pairs_in_row-requires-clause-passing g c =
    let sides = c.args.sides.now in
    rw (c.against.ensures, c.against-others.ensures)
    (c.in-InRow.ensures c.args.on.now.tree sides.left.items sides.right.items (rw c.in-Some.is at c.requires.indexes))

pub returns-in-InRow : goal.returns-in-InRow
returns-in-InRow g c = rw (← c.against-others.ensures) c.give_pairs_in_row.ensures

pub returns-in-All : goal.returns-in-All
returns-in-All g c = rw (← c.against-others.ensures) c.give_pairs.ensures

pub returns-in-Nobody : goal.returns-in-Nobody
returns-in-Nobody g c =
    let sides = c.args.sides.now in
    let on = c.args.on.now.tree in
    let alone = c.in-Nobody.ensures on sides.left.items sides.right.items (rw c.in-Some.is at c.requires.indexes) in
    let none = pairs-none on c.args.side c.args.x.now (against c.args.side sides.left.items sides.right.items) alone in
    record {
      prefix = tt;
      given = λ q.
          let before = given q (g.T.Outlet.items c.args.out.now) in
          sym (ap (λ l. before ++ at_zero q (things l)) none ∙ ap (λ l. before ++ l) (at_zero-nil q) ∙ append-nil before);
      sound = λ h. h;
      extends = prefix_itself _;
      drops = refl;
      stays_ready = c.requires.is_ready;
      came = λ start h. h;
    }

pub returns : goal.returns
returns g c = rw (← c.against-others.ensures) c.give_pairs-2.ensures
