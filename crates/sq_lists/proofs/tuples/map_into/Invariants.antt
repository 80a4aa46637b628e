use Rattle.std.proofs.Common.{◌≡◌, ◌++◌, map, drop}
use Rattle.sq_expr.specs.Expressions.{value_of}
use Rattle.sq_lists.proofs.tuples.map_into.Given as goal

abbrev pub invariant-loop-e : goal.invariant-loop-e
invariant-loop-e l =
    map (λ e. value_of e l.tuple) (map (λ e. e.tree) l.exprs) ≡ l.fields.items ++ map (λ e. value_of e l.tuple) (map (λ e. e.tree) (drop l.e-index l.exprs))
