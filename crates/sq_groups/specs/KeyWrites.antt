-- What the key of a group feeds a hasher: the values, one after another. No law needs that different keys feed it differently.
use Rattle.std.specs.Prelude.{ℕ, List, [], ◌∷◌, ◌++◌}
use Rattle.std.specs.Hash as fed
use Rattle.sq_value.specs.declared.Value.{Value}
use Rattle.sq_value.specs.declared.Value.TheVariants as value

-- a number by its eight bytes, a text by its own
abbrev pub value_writes : Value → List (List ℕ)
value_writes value.Null = fed.u8 0
value_writes (value.Int i) = fed.i64 i
value_writes (value.Bool b) = fed.bool b
value_writes (value.Text t) = t ∷ []

abbrev pub key_writes : List Value → List (List ℕ)
key_writes [] = []
key_writes (v ∷ vs) = value_writes v ++ key_writes vs
