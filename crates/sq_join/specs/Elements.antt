-- The elements of a tagged list: its tuples, each with the side that it comes at.
use Rattle.std.specs.Prelude.{ℕ, ◌==◌, List, [], ◌∷◌, ◌++◌, map}
use Rattle.std.specs.List.{filter}
use Rattle.sq_value.specs.declared.Tuple.{Tuple}
use Rattle.sq_lists.specs.Merge as whole
use Rattle.sq_lists.specs.Sides.{on_side}
use Rattle.sq_oper.specs.Entries.{Entry}
use Rattle.sq_oper.specs.Streams.{tuple_in}

-- a side and a tuple; side 0 is the left one
abbrev pub Element : Type 0
Element = whole.PortTuple

abbrev pub elements_of : List Entry → List Element
elements_of [] = []
elements_of (e ∷ es) = on_side e.port (tuple_in e.thing.time e.thing.content) ++ elements_of es

-- the tuples of one side
abbrev pub side_of : ℕ → List Element → List Tuple
side_of side es = map (λ e. e.1) (filter (λ e. e.0 == side) es)
