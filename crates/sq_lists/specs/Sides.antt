-- The two sides of a Join: what is held of them, and the pairs of a tuple that comes.
use Rattle.std.specs.Prelude.{ℕ, ◌+◌, ◌-◌, ◌≤◌, ◌==◌, nat_lt, Bool, false, if◌then◌else◌, List, [], ◌∷◌, ◌++◌, map}
use Rattle.std.specs.List.{AllByRecursion, filter}
use Rattle.sq_value.specs.declared.Tuple.{Tuple}
use Rattle.sq_expr.specs.Trees.{Expr}
use Rattle.sq_expr.specs.Expressions.{holds_of, pair_of}
use Rattle.sq_lists.specs.Merge.{PortTuple}

-- tuples that come at one side
abbrev pub on_side : ℕ → List Tuple → List PortTuple
on_side side xs = map (λ x. (side, x)) xs

-- what is held, as entries that came earlier
abbrev pub held_on_sides : List Tuple → List Tuple → List PortTuple
held_on_sides left right = on_side 0 left ++ on_side 1 right

-- those behind the first ones that are more than the size before a time
abbrev pub recent : ℕ → ℕ → List Tuple → List Tuple
recent size now [] = []
recent size now (x ∷ xs) = if nat_lt size (now - x.time) then recent size now xs else x ∷ xs

-- whether the first is more than the size before a time
abbrev pub begins_past : ℕ → ℕ → List Tuple → Bool
begins_past size now [] = false
begins_past size now (x ∷ xs) = nat_lt size (now - x.time)

-- each can still meet a tuple of this time
abbrev pub AllNear : ℕ → ℕ → List Tuple → Type 0
AllNear size now xs = AllByRecursion (λ x. now ≤ x.time + size) xs

-- a tuple that comes at a side in one with one of the other side; side 0 is the left one
abbrev pub pair_at : ℕ → Tuple → Tuple → Tuple
pair_at side x y = if side == 0 then pair_of x y else pair_of y x

-- the pairs of a tuple with these, as far as they pass
abbrev pub pairs_with : Expr → ℕ → Tuple → List Tuple → List Tuple
pairs_with on side x ys = filter (holds_of on) (map (pair_at side x) ys)

-- of what is held left and right, what stands against a side, and what is held once a tuple came there
abbrev pub against : ℕ → List Tuple → List Tuple → List Tuple
against side left right = if side == 0 then right else left

abbrev pub left_with : ℕ → Tuple → List Tuple → List Tuple
left_with side x left = if side == 0 then left ++ x ∷ [] else left

abbrev pub right_with : ℕ → Tuple → List Tuple → List Tuple
right_with side x right = if side == 0 then right else right ++ x ∷ []
