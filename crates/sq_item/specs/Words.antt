-- What a word says of a mark, and a list of values of a tuple.
use Rattle.std.specs.Prelude.{ℕ, ◌==◌, ◌-◌, if◌then◌else◌, List, [], ◌∷◌, Option, Some, None}
use Rattle.sq_value.specs.declared.Value.{Value}
use Rattle.sq_item.specs.declared.Mark.{Mark}
use Rattle.sq_item.specs.declared.Mark.TheVariants.{Open, Closed}

-- 0 is no mark, 1 a closed one, and an open one is its bound and 2
abbrev pub sign_of : ℕ → Option Mark
sign_of word = if word == 0 then None else if word == 1 then Some Closed else Some (Open (word - 2))

-- no values are no tuple
abbrev pub body_of : List Value → Option (List Value)
body_of [] = None
body_of (v ∷ vs) = Some (v ∷ vs)

abbrev pub values_of : Option (List Value) → List Value
values_of None = []
values_of (Some vs) = vs
