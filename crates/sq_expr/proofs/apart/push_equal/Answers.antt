use Rattle.sq_expr.specs.TreeView.{tree_of}
use Rattle.sq_expr.proofs.ApartLemmas.{equals-turned, implies-equals}
use Rattle.sq_expr.proofs.apart.push_equal.Goals as goal

pub returns-in_ok-push_sides-in_default-2 : goal.returns-in_ok-push_sides-in_default-2
returns-in_ok-push_sides-in_default-2 c = λ on implies agree.
    let a = tree_of c.args.a.now in
    let b = tree_of c.args.b.now in
    let equals = implies-equals on a b implies in
    c.in_ok-push_sides-in_default-2.ensures on (equals-turned on a b equals) (c.in_ok-push_sides-in_default.ensures on equals agree)
