use Rattle.std.proofs.Common.{◌≡◌, true, rules}
use Rattle.sq_expr.specs.TreeView.{tree_of}
use Rattle.sq_expr.specs.Apart.{reads_within, without_first}
use Rattle.sq_expr.proofs.ApartLemmas.{agree-push}
use Rattle.sq_expr.proofs.apart.push_sides.Goals as goal

pub returns-in_ok-push-2 : goal.returns-in_ok-push-2
returns-in_ok-push-2 c = λ on equals agree.
    let parts = c.args.parts.now in
    let a = tree_of c.args.left.now in
    let b = tree_of c.args.right.now in
    let width = c.args.width in
    let low : reads_within 0 width a ≡ true = search rules in
    let high : reads_within width 18446744073709551615 b ≡ true = search rules in
    let left-root : tree_of c.in_ok-root.root.value ≡ a = c.in_ok-root.ensures in
    let right-root : tree_of c.in_ok-root-2.root.value ≡ without_first width b = c.in_ok-root-2.ensures in
    rw (c.in_ok-push.ensures.items, c.in_ok-push-2.ensures.items, left-root, right-root)
    (agree-push on width 18446744073709551615 a b parts.left.items parts.right.items equals low high agree)
