-- EqualLemmas.
use Rattle.std.proofs.Common.{Bool, false, true, ◌≡◌, ◌||◌, refl}
use Rattle.sq_value.specs.declared.Value.{Value}
use Rattle.sq_expr.specs.Expressions.{compare_value, is_true, logic_value}
use Rattle.std.specs.Ordering.{is_eq}
use Rattle.sq_words.proofs.Bools.{is_eq_true}
use Rattle.sq_value.specs.Values.{is_null, value_cmp}
use Rattle.sq_value.proofs.ValueOrder.{value-same}
use Rattle.std.specs.Prelude.{if◌then◌else◌}
use Rattle.sq_value.specs.declared.Value.TheVariants as value
use Rattle.sq_expr.specs.declared.CompareOp.TheVariants as compare
use Rattle.sq_expr.specs.declared.LogicOp.TheVariants as logic

pub compared-equal : (v w : Value) → is_true (compare_value compare.Equal v w) ≡ true → v ≡ w
compared-equal v w h = value-same v w (is_eq_true (value_cmp v w) (test (is_null v || is_null w) (is_eq (value_cmp v w)) h))
  where
    test : (c b : Bool) → is_true (if c then value.Null else value.Bool b) ≡ true → b ≡ true
    test true b h = absurd (cc h)
    test false b h = h

pub both-true : (v w : Value) → is_true (logic_value logic.And v w) ≡ true → (is_true v ≡ true) × (is_true w ≡ true)
both-true (value.Bool true) (value.Bool true) h = (refl, refl)
both-true (value.Bool true) (value.Bool false) h = absurd (cc h)
both-true (value.Bool false) (value.Bool b) h = absurd (cc h)
both-true v w h = absurd (cc h)
