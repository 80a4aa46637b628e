-- What items stand for, worked out.
use Rattle.std.proofs.Common.{◌≡◌, [], ◌∷◌, Some, None, refl, pos}
use Rattle.sq_value.specs.declared.Value.TheVariants as value
use Rattle.sq_item.specs.declared.Mark.TheVariants as mark
use Rattle.sq_item.specs.declared.Item.{Item}
use Rattle.sq_item.specs.Things.{Sign, Body, spread_all}

abbrev ridden : Item
ridden = record { time = 5; mark = Some (mark.Open 9); body = Some (value.Int (pos 1) ∷ []) }

abbrev alone : Item
alone = record { time = 7; mark = Some mark.Closed; body = None }

abbrev plain : Item
plain = record { time = 7; mark = None; body = Some (value.Null ∷ []) }

-- a mark before its tuple, then a mark alone, then a tuple alone
spread_of_items : spread_all (ridden ∷ alone ∷ plain ∷ [])
    ≡ record { time = 5; content = Sign (mark.Open 9) } ∷ record { time = 5; content = Body (value.Int (pos 1) ∷ []) }
    ∷ record { time = 7; content = Sign mark.Closed } ∷ record { time = 7; content = Body (value.Null ∷ []) } ∷ []
spread_of_items = refl
