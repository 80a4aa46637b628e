-- The columns that a box makes of what it takes.
use Rattle.std.specs.Prelude.{ℕ, List, [], ◌∷◌, ◌++◌, map, Option, Some, None, slice_get, codes}
use Rattle.std.specs.List.{filter_map}
use Rattle.sq_value.specs.Values.{Columns}
use Rattle.sq_value.specs.declared.Kind.{Kind}
use Rattle.sq_value.specs.declared.Kind.TheVariants as kind
use Rattle.sq_expr.specs.Kinds.{kind_at}
use Rattle.sq_aggfn.specs.declared.Func.{Func}
use Rattle.sq_aggfn.specs.declared.Func.TheVariants as func

abbrev pub first_columns : List Columns → Columns
first_columns [] = []
first_columns (cs ∷ rest) = cs

abbrev pub second_columns : List Columns → Columns
second_columns [] = []
second_columns (cs ∷ rest) = first_columns rest

abbrev pub prefixed : List ℕ → Columns → Columns
prefixed letters cs = map (λ c. (letters ++ c.0, c.1)) cs

-- the columns of a left tuple in what a box of two inputs makes of it
abbrev pub left_columns : List Columns → Columns
left_columns ins = prefixed (codes "l_") (first_columns ins)

-- the columns of a pair: the left ones, then the right ones
abbrev pub pair_columns : List Columns → Columns
pair_columns ins = prefixed (codes "l_") (first_columns ins) ++ prefixed (codes "r_") (second_columns ins)

-- the columns at these places
abbrev pub columns_at : Columns → List ℕ → Columns
columns_at cs places = filter_map (slice_get cs) places

abbrev pub if_int : Option Kind → Option Kind
if_int (Some kind.Int) = Some kind.Int
if_int k = None

-- the kind of a function's answers: sums and averages are of numbers alone
abbrev pub kind_of_func : Columns → Func → Option Kind
kind_of_func cs func.Count = Some kind.Int
kind_of_func cs (func.Sum i) = if_int (kind_at cs i)
kind_of_func cs (func.Avg i) = if_int (kind_at cs i)
kind_of_func cs (func.Min i) = kind_at cs i
kind_of_func cs (func.Max i) = kind_at cs i
kind_of_func cs (func.First i) = kind_at cs i
kind_of_func cs (func.Last i) = kind_at cs i
