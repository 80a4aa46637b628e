-- How many bytes an item takes at most, by its values.
use Rattle.std.proofs.Common.{◌+◌, ◌≤◌, List, [], ◌∷◌, Option, Some, None, length, arith}
use Rattle.std.specs.Prelude.{sum_by}
use Rattle.std.proofs.lemmas.List.{length-append}
use Rattle.std.proofs.lemmas.List.Sums.{sum_by-cons}
use Rattle.sq_value.specs.declared.Value.{Value}
use Rattle.sq_value.specs.declared.Value.TheVariants as value
use Rattle.sq_item.specs.declared.Mark.{Mark}
use Rattle.sq_item.specs.declared.Mark.TheVariants.{Open, Closed}
use Rattle.sq_item.specs.declared.Item.{Item}
use Rattle.sq_item.specs.SoundItems.{IsBody}
use Rattle.sq_item.specs.Words.{values_of}
use Rattle.sq_page.specs.Pages.{value_bytes, values_bytes, item_bytes, items_bytes, until_bytes, body_bytes}
use Rattle.sq_queue.specs.Faces.{value_room, room_of, rooms_of, bytes_taken}

value-within : (v : Value) → length (value_bytes v) ≤ value_room v
value-within value.Null = omega arith
value-within (value.Int i) = omega arith
value-within (value.Bool b) = omega arith
value-within (value.Text t) = omega arith

values-within : (vs : List Value) → length (values_bytes vs) ≤ sum_by value_room vs
values-within [] = omega arith
values-within (v ∷ vs) = omega (arith, value-within v, values-within vs, sum_by-cons value_room v vs, length-append (value_bytes v) (values_bytes vs))

until-within : (mark : Option Mark) → length (until_bytes mark) ≤ 8
until-within None = omega arith
until-within (Some (Open until)) = omega arith
until-within (Some Closed) = omega arith

body-within : (body : Option (List Value)) → length (body_bytes body) ≤ 1 + sum_by value_room (values_of body)
body-within None = omega arith
body-within (Some fields) = omega (arith, values-within fields)

item-within : (item : Item) → length (item_bytes item) ≤ room_of item
unfolding item_bytes
item-within item = omega (arith, until-within item.mark, body-within item.body, length-append (until_bytes item.mark) (body_bytes item.body))

pub bytes-within : (items : List Item) → bytes_taken items ≤ rooms_of items
bytes-within [] = omega arith
bytes-within (item ∷ items) = omega (arith, item-within item, bytes-within items, sum_by-cons room_of item items, length-append (item_bytes item) (items_bytes items))

pub few-values : (body : Option (List Value)) → IsBody body → length (values_of body) ≤ 16
few-values None sound = omega arith
few-values (Some fields) sound = sound.1
