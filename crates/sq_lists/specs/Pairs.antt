-- Join.
use Rattle.std.specs.Prelude.{ℕ, Bool, not, ◌&&◌, ◌==◌, if◌then◌else◌, nat_le, List, [], ◌∷◌, ◌++◌, map, length, take}
use Rattle.std.specs.Int.{abs_diff}
use Rattle.std.specs.List.{filter}
use Rattle.sq_value.specs.declared.Tuple.{Tuple}
use Rattle.sq_expr.specs.Trees.{Expr}
use Rattle.sq_expr.specs.Expressions.{holds_of, pair_of}
use Rattle.sq_lists.specs.Merge.{PortTuple, merge_tuples}
use Rattle.sq_value.specs.Values.{Columns}
use Rattle.sq_words.specs.Lists.{same_bytes}

-- whether an entry and an earlier one are of two sides, and their times differ by at most the size
abbrev pub meets : ℕ → PortTuple → PortTuple → Bool
meets size now before = not (now.0 == before.0) && nat_le (abs_diff (now.1).time (before.1).time) size

-- an entry in one with an earlier one of the other side; stream 0 is the left one
abbrev pub paired : PortTuple → PortTuple → Tuple
paired now before = if now.0 == 0 then pair_of now.1 before.1 else pair_of before.1 now.1

-- the pairs of an entry with those before it, in their order
abbrev pub pairs_of : ℕ → Expr → List PortTuple → PortTuple → List Tuple
pairs_of size on before now = filter (holds_of on) (map (paired now) (filter (meets size now) before))

-- the pairs of each entry, in order, with those before it
abbrev pub pairs_from : ℕ → Expr → List PortTuple → List PortTuple → List Tuple
pairs_from size on before [] = []
pairs_from size on before (now ∷ later) = pairs_of size on before now ++ pairs_from size on (before ++ now ∷ []) later

-- what a Join gives
abbrev pub join_list_of : ℕ → Expr → List Tuple → List Tuple → List Tuple
join_list_of size on left right = pairs_from size on [] (merge_tuples (left ∷ right ∷ []))

-- the number of left fields: their names begin with `l_`
abbrev pub left_fields : Columns → ℕ
left_fields columns = length (filter (λ c. same_bytes (take 2 c.0) (108 ∷ 95 ∷ [])) columns)
