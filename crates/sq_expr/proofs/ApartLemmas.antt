-- An expression over the fields of one tuple of a pair, and what an equality says of two such.
use Rattle.std.proofs.Common.{◌≡◌, ℕ, ◌-◌, Bool, true, false, List, [], ◌∷◌, ◌++◌, length, refl, ap, ap₂, sym, ◌∙◌, Option, None, Some, arith, tests}
use Rattle.std.specs.Prelude.{ℤ, nat_lt, nat_le}
use Rattle.std.proofs.lemmas.Bool.{and_parts}
use Rattle.sq_words.proofs.Lists.{map_append}
use Rattle.sq_value.specs.declared.Value.{Value}
use Rattle.sq_value.specs.declared.Value.TheVariants as value
use Rattle.sq_value.specs.declared.Tuple.{Tuple}
use Rattle.sq_value.specs.Values.{is_null}
use Rattle.sq_expr.specs.declared.CompareOp.TheVariants as compare
use Rattle.sq_expr.specs.declared.LogicOp.TheVariants as logic
use Rattle.sq_expr.specs.Trees.{Expr, Literal, Time, Field, Unary, Arithmetic, Compare, Logic}
use Rattle.sq_expr.specs.Expressions.{arithmetic_value, compare_value, is_true, logic_value, pair_of, unary_value, value_of}
use Rattle.sq_expr.specs.Apart.{reads_within, without_first, number_for, numbers_for, lacks_one, Equals, Fixes, Implies, PartsAgree}
use Rattle.sq_expr.proofs.EqualLemmas.{both-true, compared-equal}
use Rattle.sq_expr.proofs.RowLemmas.{field_left, field_right}

-- what equals something isn't Null
pub compared-some : (v w : Value) → is_true (compare_value compare.Equal v w) ≡ true → is_null v ≡ false
compared-some value.Null w h = absurd (cc h)
compared-some (value.Int i) w h = refl
compared-some (value.Bool b) w h = refl
compared-some (value.Text t) w h = refl

-- over left fields alone an expression has the value in a pair that it has in the left tuple
left-alone : (w : ℕ) (e : Expr) (l r : Tuple) → length l.fields ≡ w → reads_within 0 w e ≡ true → value_of e (pair_of l r) ≡ value_of e l
left-alone w (Literal v) l r n h = refl
left-alone w Time l r n h = absurd (cc h)
left-alone w (Field i) l r n h =
    let within = and_parts (nat_le 0 i) (nat_lt i w) h in
    field_left l.fields r.fields i (grind (arith, tests, n, within.1))
left-alone w (Unary o a) l r n h = ap (unary_value o) (left-alone w a l r n h)
left-alone w (Arithmetic o a b) l r n h =
    let both = and_parts (reads_within 0 w a) (reads_within 0 w b) h in ap₂ (arithmetic_value o) (left-alone w a l r n both.0) (left-alone w b l r n both.1)
left-alone w (Compare o a b) l r n h =
    let both = and_parts (reads_within 0 w a) (reads_within 0 w b) h in ap₂ (compare_value o) (left-alone w a l r n both.0) (left-alone w b l r n both.1)
left-alone w (Logic o a b) l r n h =
    let both = and_parts (reads_within 0 w a) (reads_within 0 w b) h in ap₂ (logic_value o) (left-alone w a l r n both.0) (left-alone w b l r n both.1)

-- over right fields alone the one that it has in the right tuple, where the left fields aren't there
right-alone : (w to : ℕ) (e : Expr) (l r : Tuple) → length l.fields ≡ w → reads_within w to e ≡ true → value_of e (pair_of l r) ≡ value_of (without_first w e) r
right-alone w to (Literal v) l r n h = refl
right-alone w to Time l r n h = absurd (cc h)
right-alone w to (Field i) l r n h =
    let within = and_parts (nat_le w i) (nat_lt i to) h in
    field_right l.fields r.fields i (grind (arith, tests, n, within.0)) ∙ ap (λ k. value_of (Field (i - k)) r) n
right-alone w to (Unary o a) l r n h = ap (unary_value o) (right-alone w to a l r n h)
right-alone w to (Arithmetic o a b) l r n h =
    let both = and_parts (reads_within w to a) (reads_within w to b) h in ap₂ (arithmetic_value o) (right-alone w to a l r n both.0) (right-alone w to b l r n both.1)
right-alone w to (Compare o a b) l r n h =
    let both = and_parts (reads_within w to a) (reads_within w to b) h in ap₂ (compare_value o) (right-alone w to a l r n both.0) (right-alone w to b l r n both.1)
right-alone w to (Logic o a b) l r n h =
    let both = and_parts (reads_within w to a) (reads_within w to b) h in ap₂ (logic_value o) (right-alone w to a l r n both.0) (right-alone w to b l r n both.1)

lacks-push : (ns : List (Option ℤ)) (v : Value) → lacks_one ns ≡ false → is_null v ≡ false → lacks_one (ns ++ number_for v ∷ []) ≡ false
lacks-push [] value.Null none some = absurd (cc some)
lacks-push [] (value.Int i) none some = refl
lacks-push [] (value.Bool b) none some = refl
lacks-push [] (value.Text t) none some = refl
lacks-push (None ∷ ns) v none some = absurd (cc none)
lacks-push (Some n ∷ ns) v none some = lacks-push ns v none some

pub equals-turned : (on a b : Expr) → Equals on a b → Equals on b a
equals-turned on a b equals t holds =
    let same = equals t holds in
    (sym same.0, rw same.0 at same.1)

-- one part more on each side
pub agree-push : (on : Expr) (w to : ℕ) (a b : Expr) (lefts rights : List Expr) → Equals on a b → reads_within 0 w a ≡ true → reads_within w to b ≡ true
    → PartsAgree on w lefts rights → PartsAgree on w (lefts ++ a ∷ []) (rights ++ without_first w b ∷ [])
agree-push on w to a b lefts rights equals low high agree l r wide holds =
    let was = agree l r wide holds in
    let now = equals (pair_of l r) holds in
    let one : value_of a (pair_of l r) ≡ value_of a l = left-alone w a l r wide low in
    let other : value_of b (pair_of l r) ≡ value_of (without_first w b) r = right-alone w to b l r wide high in
    let same : value_of a l ≡ value_of (without_first w b) r = sym one ∙ now.0 ∙ other in
    let some : is_null (value_of a l) ≡ false = rw one at now.1 in
    let left : numbers_for (lefts ++ a ∷ []) l ≡ numbers_for lefts l ++ number_for (value_of a l) ∷ [] = map_append (λ e. number_for (value_of e l)) lefts (a ∷ []) in
    let right : numbers_for (rights ++ without_first w b ∷ []) r ≡ numbers_for rights r ++ number_for (value_of (without_first w b) r) ∷ [] =
    map_append (λ e. number_for (value_of e r)) rights (without_first w b ∷ []) in
    (left ∙ ap₂ (λ ns v. ns ++ number_for v ∷ []) was.0 same ∙ sym right, ap lacks_one left ∙ lacks-push (numbers_for lefts l) (value_of a l) was.1 some)

-- ---- what stands beside other conditions

pub implies-both : (on p q : Expr) → Implies on (Logic logic.And p q) → Implies on p × Implies on q
implies-both on p q implies =
    ((λ t h. (both-true (value_of p t) (value_of q t) (implies t h)).0), (λ t h. (both-true (value_of p t) (value_of q t) (implies t h)).1))

pub implies-equals : (on a b : Expr) → Implies on (Compare compare.Equal a b) → Equals on a b
implies-equals on a b implies t h =
    (compared-equal (value_of a t) (value_of b t) (implies t h), compared-some (value_of a t) (value_of b t) (implies t h))

pub fixes_field : (i : ℕ) (v : Value) → Fixes (Compare compare.Equal (Field i) (Literal v)) i v
fixes_field i v t h =
    let same = implies-equals (Compare compare.Equal (Field i) (Literal v)) (Field i) (Literal v) (λ t h. h) t h in
    (same.0, rw same.0 at same.1)

pub fixes_constant : (i : ℕ) (v : Value) → Fixes (Compare compare.Equal (Literal v) (Field i)) i v
fixes_constant i v t h =
    let same = implies-equals (Compare compare.Equal (Literal v) (Field i)) (Literal v) (Field i) (λ t h. h) t h in
    (sym same.0, same.1)

pub fixes_left : (p q : Expr) (i : ℕ) (v : Value) → Fixes p i v → Fixes (Logic logic.And p q) i v
fixes_left p q i v fixes t h = fixes t (both-true (value_of p t) (value_of q t) h).0

pub fixes_right : (p q : Expr) (i : ℕ) (v : Value) → Fixes q i v → Fixes (Logic logic.And p q) i v
fixes_right p q i v fixes t h = fixes t (both-true (value_of p t) (value_of q t) h).1

pub ruleset equality_lemmas = (equals-turned, implies-equals, implies-both, fixes_field, fixes_constant, fixes_left, fixes_right)
