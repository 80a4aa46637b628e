-- Join on whole lists, worked out, and codes of keys.
use Rattle.std.proofs.Common.{◌≡◌, ℕ, true, List, [], ◌∷◌, None, Some, refl, pos}
use Rattle.sq_value.specs.declared.Value.{Value}
use Rattle.sq_value.specs.declared.Value.TheVariants as value
use Rattle.sq_value.specs.declared.Tuple.{Tuple}
use Rattle.sq_expr.specs.declared.CompareOp.TheVariants as compare
use Rattle.sq_expr.specs.declared.LogicOp.TheVariants as logic
use Rattle.sq_expr.specs.Trees.{Expr, Literal, Field, Compare, Logic}
use Rattle.sq_lists.specs.Pairs.{join_list_of}
use Rattle.sq_join.specs.Codes.{key_code, row_at_code}

-- a tuple of one number, and a pair of two such
abbrev at : ℕ → ℕ → Tuple
at t v = record { time = t; fields = value.Int (pos v) ∷ [] }

abbrev pair_at : ℕ → ℕ → ℕ → Tuple
pair_at t l r = record { time = t; fields = value.Int (pos l) ∷ value.Int (pos r) ∷ [] }

abbrev always : Expr
always = Literal (value.Bool true)

-- two ticks apart at most; the left field stands first, whichever came first
near_pairs : join_list_of 2 always (at 1 10 ∷ at 4 40 ∷ []) (at 3 30 ∷ at 6 60 ∷ []) ≡ pair_at 3 10 30 ∷ pair_at 4 40 30 ∷ pair_at 6 40 60 ∷ []
near_pairs = refl

-- the pair of equal ticks fails the test, and tick 4 is three away
tested_pairs : join_list_of 2 (Compare compare.Less (Field 0) (Field 1)) (at 1 10 ∷ []) (at 1 5 ∷ at 3 11 ∷ at 4 12 ∷ []) ≡ pair_at 3 10 11 ∷ []
tested_pairs = refl

-- at size 0 equal ticks meet, once; the earlier ones are met in their order
equal_ticks : join_list_of 0 always (at 5 1 ∷ at 5 2 ∷ at 6 3 ∷ []) (at 4 7 ∷ at 5 8 ∷ at 5 9 ∷ []) ≡ pair_at 5 1 8 ∷ pair_at 5 2 8 ∷ pair_at 5 1 9 ∷ pair_at 5 2 9 ∷ []
equal_ticks = refl

-- ---- keys

-- a tuple of some values, and the texts a and b
abbrev of : ℕ → List Value → Tuple
of t fields = record { time = t; fields = fields }

abbrev a : Value
a = value.Text (97 ∷ [])

abbrev b : Value
b = value.Text (98 ∷ [])

abbrev number : ℕ → Value
number n = value.Int (pos n)

abbrev same : ℕ → ℕ → Expr
same i j = Compare compare.Equal (Field i) (Field j)

-- the key is a text
equal_texts : join_list_of 9 (same 0 1) (of 1 (a ∷ []) ∷ of 2 (b ∷ []) ∷ []) (of 3 (b ∷ []) ∷ of 4 (a ∷ []) ∷ []) ≡ of 3 (b ∷ b ∷ []) ∷ of 4 (a ∷ a ∷ []) ∷ []
equal_texts = refl

-- the key is two fields, which stand in another order on the right
equal_in_two : join_list_of 9 (Logic logic.And (same 0 3) (same 2 1)) (of 1 (a ∷ number 7 ∷ []) ∷ of 2 (a ∷ number 8 ∷ []) ∷ []) (of 3 (number 8 ∷ a ∷ []) ∷ of 4 (number 8 ∷ b ∷ []) ∷ [])
    ≡ of 3 (a ∷ number 8 ∷ number 8 ∷ a ∷ []) ∷ []
equal_in_two = refl

-- Null meets none, and no Null
none_equals_null : join_list_of 9 (same 0 1) (of 1 (value.Null ∷ []) ∷ of 2 (a ∷ []) ∷ []) (of 3 (value.Null ∷ []) ∷ of 4 (a ∷ []) ∷ []) ≡ of 4 (a ∷ a ∷ []) ∷ []
none_equals_null = refl

-- a key that all share: the pairs come in the order of their later tuples, then of the earlier ones
all_share_a_key : join_list_of 9 (same 0 2) (of 1 (a ∷ number 1 ∷ []) ∷ of 2 (a ∷ number 2 ∷ []) ∷ []) (of 3 (a ∷ []) ∷ of 4 (a ∷ []) ∷ [])
    ≡ of 3 (a ∷ number 1 ∷ a ∷ []) ∷ of 3 (a ∷ number 2 ∷ a ∷ []) ∷ of 4 (a ∷ number 1 ∷ a ∷ []) ∷ of 4 (a ∷ number 2 ∷ a ∷ []) ∷ []
all_share_a_key = refl

-- a key with Null has no code; 1 has the odd constant's, which stands in the seventh of twelve rows
null_has_no_code : key_code (a ∷ value.Null ∷ []) ≡ None
null_has_no_code = refl

code_of_one : key_code (number 1 ∷ []) ≡ Some 11400714819323198485
code_of_one = refl

row_of_one : row_at_code 12 11400714819323198485 ≡ 7
row_of_one = refl
