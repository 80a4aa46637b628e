-- Map: what it still gives, mark by mark and tuple by tuple.
use Rattle.std.specs.Prelude.{ℕ, nat_le, Bool, ◌&&◌, List, [], ◌∷◌, length}
use Rattle.sq_item.specs.Things.{Content, Sign, Body, Thing}
use Rattle.sq_expr.specs.Trees.{Checked}
use Rattle.sq_lists.specs.Boxes.{map_list_of}
use Rattle.sq_oper.specs.Entries.{Entry}
use Rattle.sq_oper.specs.Streams.{things, at_zero}
use Rattle.sq_tagged.specs.TaggedStreams.{mark_thing}
use Rattle.sq_tagged.specs.EntrywiseBoxes.{given_for}
use Rattle.sq_expr.specs.Checking.{trees}

abbrev pub map_gives : List Checked → ℕ → ℕ → Content → List Thing
map_gives exprs q time (Sign m) = at_zero q (mark_thing (time, m) ∷ [])
map_gives exprs q time (Body fields) = at_zero q (things (map_list_of (trees exprs) (record { time = time; fields = fields } ∷ [])))

abbrev pub map_rest : List Checked → List Entry → ℕ → List Thing
map_rest exprs future q = given_for (map_gives exprs q) future

-- a Map's tuples have 1 to 16 values
abbrev pub makes_tuple : List Checked → Bool
makes_tuple exprs = nat_le 1 (length exprs) && nat_le (length exprs) 16
