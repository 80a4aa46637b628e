use Rattle.std.proofs.Common.{rules}
use Rattle.sq_expr.specs.Apart.{PartsAgree}
use Rattle.sq_join.specs.EqualFields.{EquatesKeys}
use Rattle.sq_join.proofs.KeyLemmas.{equates-codes}
use Rattle.sq_join.proofs.side_indexes.SideIndexes.of.Goals as goal

pub returns : goal.returns
returns c =
    let on = c.args.on.now.tree in
    let width = c.in_ok-width.field-0.width in
    let left = c.in_ok-width.field-0.left.items in
    let right = c.in_ok-width.field-0.right.items in
    let left-parts = c.in_ok-parts.parts.left.items in
    let right-parts = c.in_ok-parts.parts.right.items in
    let keys : EquatesKeys on width left right = search rules in
    let parts : PartsAgree on width left-parts right-parts = search rules in record {
      equates = rw (c.new.ensures.keys.0, c.new.ensures.keys.1.0, c.new.ensures.keys.1.1, c.new-2.ensures.keys.0, c.new-2.ensures.keys.1.0)
          (equates-codes on width left right left-parts right-parts keys parts);
      both = (c.new.ensures.index, c.new-2.ensures.index);
    }
