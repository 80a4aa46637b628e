-- What a predicate asks to be equal of two places of a pair.
use Rattle.std.specs.Prelude.{◌≡◌, ℕ, true, false}
use Rattle.sq_value.specs.declared.Tuple.{Tuple}
use Rattle.sq_value.specs.Values.{field, is_null}
use Rattle.sq_expr.specs.Trees.{Expr}
use Rattle.sq_expr.specs.Expressions.{holds_of}

-- the values at two places are the same and not Null in each tuple of which the predicate is true
abbrev pub Equates : Expr → ℕ × ℕ → Type 0
Equates on places = (t : Tuple) → holds_of on t ≡ true → (field t.fields places.0 ≡ field t.fields places.1) × (is_null (field t.fields places.0) ≡ false)
