-- What a predicate asks to be equal.
use Rattle.std.specs.Prelude.{◌≡◌, ℕ, true, false, List, length, None}
use Rattle.sq_value.specs.declared.Tuple.{Tuple}
use Rattle.sq_expr.specs.Trees.{Expr}
use Rattle.sq_expr.specs.Expressions.{holds_of, pair_of}
use Rattle.sq_aggfn.specs.Groups.{group_of}
use Rattle.sq_join.specs.declared.keys.Keys.{Keys}
use Rattle.sq_join.specs.Codes.{tuple_code, has_null}

-- in each pair of which the predicate is true the values at the left and the right places are the same, and none is Null
abbrev pub EquatesKeys : Expr → ℕ → List ℕ → List ℕ → Type 0
EquatesKeys on width lefts rights =
    (l r : Tuple) → length l.fields ≡ width → holds_of on (pair_of l r) ≡ true → (group_of lefts l ≡ group_of rights r) × (has_null (group_of lefts l) ≡ false)

abbrev pub AreKeys : Expr → Keys → Type 0
AreKeys on keys = EquatesKeys on keys.width keys.left.items keys.right.items

-- in each pair of which the predicate is true the left and the right key have the same code, and have one
abbrev pub EquatesCodes : Expr → ℕ → List ℕ → List Expr → List ℕ → List Expr → Type 0
EquatesCodes on width left-places left-parts right-places right-parts =
    (l r : Tuple) → length l.fields ≡ width → holds_of on (pair_of l r) ≡ true
    → (tuple_code left-places left-parts l ≡ tuple_code right-places right-parts r) × (tuple_code left-places left-parts l ≡ None → ⊥)
