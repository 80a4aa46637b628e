-- The fields of a pair.
use Rattle.std.proofs.Common.{◌≡◌, ℕ, ◌-◌, ◌<◌, ◌≤◌, List, [], ◌++◌, length, refl}
use Rattle.std.proofs.lemmas.List.{append-nil, get_or_append_left, get_or-append_right}
use Rattle.sq_value.specs.declared.Value.{Value}
use Rattle.sq_value.specs.declared.Value.TheVariants as value
use Rattle.sq_value.specs.Values.{field}

pub field_left : (ls rs : List Value) (i : ℕ) → i < length ls → field (ls ++ rs) i ≡ field ls i
field_left ls rs i lt = get_or_append_left ls rs value.Null i lt

pub field_right : (ls rs : List Value) (i : ℕ) → length ls ≤ i → field (ls ++ rs) i ≡ field rs (i - length ls)
field_right ls rs i le = get_or-append_right ls rs (length ls) i value.Null refl le

-- a tuple that stands alone has no right fields
pub row_alone : (fields : List Value) → fields ++ [] ≡ fields
row_alone fields = append-nil fields
