-- What a predicate says of the two tuples of a pair apart, and of a field and a constant.
use Rattle.std.specs.Prelude.{◌≡◌, ℕ, ◌-◌, ◌&&◌, Bool, true, false, nat_lt, nat_le, ℤ, pos, if◌then◌else◌, List, [], ◌∷◌, length, map, Option, None, Some}
use Rattle.sq_value.specs.declared.Value.{Value}
use Rattle.sq_value.specs.declared.Value.TheVariants as value
use Rattle.sq_value.specs.declared.Tuple.{Tuple}
use Rattle.sq_value.specs.Values.{field, is_null}
use Rattle.sq_expr.specs.Trees.{Expr, Literal, Time, Field, Unary, Arithmetic, Compare, Logic}
use Rattle.sq_expr.specs.Expressions.{holds_of, pair_of, value_of}

-- whether all fields that an expression reads stand from one place on and before another; the time isn't read
abbrev pub reads_within : ℕ → ℕ → Expr → Bool
reads_within from to (Literal v) = true
reads_within from to Time = false
reads_within from to (Field i) = nat_le from i && nat_lt i to
reads_within from to (Unary o a) = reads_within from to a
reads_within from to (Arithmetic o a b) = reads_within from to a && reads_within from to b
reads_within from to (Compare o a b) = reads_within from to a && reads_within from to b
reads_within from to (Logic o a b) = reads_within from to a && reads_within from to b

-- the same expression, where so many fields in front aren't there
abbrev pub without_first : ℕ → Expr → Expr
without_first n (Literal v) = Literal v
without_first n Time = Time
without_first n (Field i) = Field (i - n)
without_first n (Unary o a) = Unary o (without_first n a)
without_first n (Arithmetic o a b) = Arithmetic o (without_first n a) (without_first n b)
without_first n (Compare o a b) = Compare o (without_first n a) (without_first n b)
without_first n (Logic o a b) = Logic o (without_first n a) (without_first n b)

-- a number that stands for a value, so that the same one stands for equal values; for Null none does
abbrev pub number_for : Value → Option ℤ
number_for value.Null = None
number_for (value.Int i) = Some i
number_for (value.Bool b) = Some (if b then pos 1 else pos 0)
number_for (value.Text t) = Some (pos 0)

abbrev pub numbers_for : List Expr → Tuple → List (Option ℤ)
numbers_for es t = map (λ e. number_for (value_of e t)) es

abbrev pub lacks_one : List (Option ℤ) → Bool
lacks_one [] = false
lacks_one (None ∷ ns) = true
lacks_one (Some n ∷ ns) = lacks_one ns

-- two expressions have the same value, and not Null, in each tuple of which a predicate is true
abbrev pub Equals : Expr → Expr → Expr → Type 0
Equals on a b = (t : Tuple) → holds_of on t ≡ true → (value_of a t ≡ value_of b t) × (is_null (value_of a t) ≡ false)

-- wherever a predicate is true, another one is
abbrev pub Implies : Expr → Expr → Type 0
Implies on e = (t : Tuple) → holds_of on t ≡ true → holds_of e t ≡ true

-- in each pair of which a predicate is true the left parts in the left tuple stand for the same numbers as the right ones in the right tuple, and none is Null
abbrev pub PartsAgree : Expr → ℕ → List Expr → List Expr → Type 0
PartsAgree on width lefts rights =
    (l r : Tuple) → length l.fields ≡ width → holds_of on (pair_of l r) ≡ true → (numbers_for lefts l ≡ numbers_for rights r) × (lacks_one (numbers_for lefts l) ≡ false)

-- a field has a value, which isn't Null, in each tuple of which a predicate is true
abbrev pub Fixes : Expr → ℕ → Value → Type 0
Fixes on place v = (t : Tuple) → holds_of on t ≡ true → (field t.fields place ≡ v) × (is_null v ≡ false)
