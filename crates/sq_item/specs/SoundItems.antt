-- Which items a program may make.
use Rattle.std.specs.Prelude.{◌≡◌, ◌^◌, ◌<◌, ◌≤◌, ◌||◌, true, List, length, Option, Some, None, is_some}
use Rattle.sq_value.specs.declared.Value.{Value}
use Rattle.sq_item.specs.declared.Mark.{Mark}
use Rattle.sq_item.specs.declared.Mark.TheVariants.{Open, Closed}
use Rattle.sq_item.specs.declared.Item.{Item}

-- the bound of a mark is below 2^47
abbrev pub IsMark : Option Mark → Type 0
IsMark None = Unit {0}
IsMark (Some (Open until)) = until < 2 ^ 47
IsMark (Some Closed) = Unit {0}

-- a tuple has 1 to 16 values
abbrev pub IsBody : Option (List Value) → Type 0
IsBody None = Unit {0}
IsBody (Some fields) = (1 ≤ length fields) × (length fields ≤ 16)

-- its time is a tick, and it has a mark or a tuple
pub record IsSoundItem (item : Item) : Type 0 where
  pub tick : item.time < 2 ^ 40
  pub some : (is_some item.mark || is_some item.body) ≡ true
  pub mark : IsMark item.mark
  pub body : IsBody item.body
