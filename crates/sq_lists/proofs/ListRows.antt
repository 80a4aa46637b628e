-- The boxes on whole lists, worked out.
use Rattle.std.proofs.Common.{◌≡◌, ℕ, List, [], ◌∷◌, refl, pos}
use Rattle.sq_value.specs.declared.Value.TheVariants as value
use Rattle.sq_value.specs.declared.Tuple.{Tuple}
use Rattle.sq_expr.specs.declared.CompareOp.TheVariants as compare
use Rattle.sq_expr.specs.declared.ArithmeticOp.TheVariants as arithmetic
use Rattle.sq_expr.specs.Trees.{Expr, Literal, Time, Field, Arithmetic, Compare}
use Rattle.sq_lists.specs.Merge.{merge_tuples, union}
use Rattle.sq_lists.specs.Boxes.{filter_list_of, map_list_of}
use Rattle.sq_lists.specs.Sorting.{bsort_list_of}

-- a tuple of one number, and one of Null
abbrev at : ℕ → ℕ → Tuple
at t v = record { time = t; fields = value.Int (pos v) ∷ [] }

abbrev null_at : ℕ → Tuple
null_at t = record { time = t; fields = value.Null ∷ [] }

abbrev number : ℕ → Expr
number v = Literal (value.Int (pos v))

-- by time, then by stream, then by place
merged : union ((at 1 10 ∷ at 3 11 ∷ at 3 12 ∷ []) ∷ (at 2 20 ∷ at 3 21 ∷ []) ∷ []) ≡ at 1 10 ∷ at 2 20 ∷ at 3 11 ∷ at 3 12 ∷ at 3 21 ∷ []
merged = refl

merged_with_ports : merge_tuples ((at 3 1 ∷ []) ∷ (at 2 2 ∷ at 3 3 ∷ []) ∷ []) ≡ (1, at 2 2) ∷ (0, at 3 1) ∷ (1, at 3 3) ∷ []
merged_with_ports = refl

-- at least 10, at least 5, and the others; Null is neither
abbrev tests : List Expr
tests = Compare compare.AtLeast (Field 0) (number 10) ∷ Compare compare.AtLeast (Field 0) (number 5) ∷ []

abbrev inputs : List Tuple
inputs = at 1 7 ∷ at 2 12 ∷ null_at 3 ∷ at 4 2 ∷ at 4 30 ∷ []

first_port : filter_list_of tests 0 inputs ≡ at 2 12 ∷ at 4 30 ∷ []
first_port = refl

second_port : filter_list_of tests 1 inputs ≡ at 1 7 ∷ []
second_port = refl

other_port : filter_list_of tests 2 inputs ≡ null_at 3 ∷ at 4 2 ∷ []
other_port = refl

-- the time and twice the value; the times stay
mapped_values : map_list_of (Time ∷ Arithmetic arithmetic.Plus (Field 0) (Field 0) ∷ []) (at 3 4 ∷ null_at 5 ∷ [])
    ≡ record { time = 3; fields = value.Int (pos 3) ∷ value.Int (pos 8) ∷ [] } ∷ record { time = 5; fields = value.Int (pos 5) ∷ value.Null ∷ [] } ∷ []
mapped_values = refl

-- one is held
sorted : bsort_list_of 0 1 (at 5 3 ∷ at 6 1 ∷ at 7 2 ∷ []) ≡ at 1 1 ∷ at 2 2 ∷ at 3 3 ∷ []
sorted = refl

-- none is held, so the second and the third come too late
sorted_without_slack : bsort_list_of 0 0 (at 5 3 ∷ at 6 1 ∷ at 7 2 ∷ []) ≡ at 3 3 ∷ []
sorted_without_slack = refl

-- 8 is after the tuple's own time 7
sorted_without_future : bsort_list_of 0 1 (at 5 3 ∷ at 6 1 ∷ at 7 8 ∷ []) ≡ at 1 1 ∷ at 3 3 ∷ []
sorted_without_future = refl
