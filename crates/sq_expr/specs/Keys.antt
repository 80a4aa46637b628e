-- What an expression says of columns by itself.
use Rattle.std.specs.Prelude.{ℕ, List, [], ◌∷◌, ◌++◌, Option, Some, None}
use Rattle.sq_expr.specs.Trees.{Expr, Literal, Time, Field, Unary, Arithmetic, Compare, Logic}
use Rattle.sq_expr.specs.declared.CompareOp.TheVariants as compare
use Rattle.sq_expr.specs.declared.LogicOp.TheVariants as logic

-- the column whose bare field an expression is
abbrev pub bare_of : Expr → Option ℕ
bare_of (Field i) = Some i
bare_of e = None

abbrev pub pair_of_fields : Expr → Expr → List (ℕ × ℕ)
pair_of_fields (Field a) (Field b) = (a, b) ∷ []
pair_of_fields p q = []

-- the pairs of columns without whose being equal a predicate isn't true: it says so, alone or beside other conditions
abbrev pub equated : Expr → List (ℕ × ℕ)
equated (Compare compare.Equal p q) = pair_of_fields p q
equated (Logic logic.And p q) = equated p ++ equated q
equated e = []
