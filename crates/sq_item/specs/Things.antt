-- The marks and tuples that items stand for.
use Rattle.std.specs.Prelude.{ℕ, Bool, true, false, List, [], ◌∷◌, ◌++◌, Option, Some, None}
use Rattle.std.specs.List.{flat_map}
use Rattle.sq_value.specs.declared.Value.{Value}
use Rattle.sq_item.specs.declared.Mark.{Mark}
use Rattle.sq_item.specs.declared.Item.{Item}

-- what stands on an arc at a time: a mark, or the fields of a tuple
pub data Content : Type 0 where
  Sign : Mark → Content
  Body : List Value → Content

-- a mark or a tuple with its time
pub record Thing : Type 0 where
  pub time : ℕ
  pub content : Content

abbrev pub is_body : Content → Bool
is_body (Sign m) = false
is_body (Body fields) = true

abbrev pub mark_part : ℕ → Option Mark → List Thing
mark_part time None = []
mark_part time (Some mark) = record { time = time; content = Sign mark } ∷ []

abbrev pub body_part : ℕ → Option (List Value) → List Thing
body_part time None = []
body_part time (Some fields) = record { time = time; content = Body fields } ∷ []

-- an item is its mark and then its tuple
abbrev pub spread : Item → List Thing
spread item = mark_part item.time item.mark ++ body_part item.time item.body

abbrev pub spread_all : List Item → List Thing
spread_all items = flat_map spread items
