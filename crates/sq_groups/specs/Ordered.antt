-- The entries of a map in the order of their groups.
use Rattle.std.specs.Prelude.{◌≡◌, Bool, true, List, [], ◌∷◌}
use Rattle.std.specs.Ordering.{is_eq, is_lt}
use Rattle.std.specs.BTreeMap.{insert_entry}
use Rattle.sq_value.specs.declared.Value.{Value}
use Rattle.sq_value.specs.Values.{fields_cmp}

-- whether a group is another
abbrev pub is_at : List Value → List Value → Bool
is_at g q = is_eq (fields_cmp g q)

-- each put where an ordered map has it
abbrev pub in_order : {V : Type 0} → List (List Value × V) → List (List Value × V)
in_order [] = []
in_order (e ∷ es) = insert_entry fields_cmp (in_order es) e.0 e.1

-- an entry's group comes before another's
abbrev pub group_earlier : {V : Type 0} → List Value × V → List Value × V → Bool
group_earlier a b = is_lt (fields_cmp a.0 b.0)

-- entries that are said to stand in that order do
abbrev pub StandsInOrder : {V : Type 0} → Bool → List (List Value × V) → Type 0
StandsInOrder sorted es = sorted ≡ true → in_order es ≡ es
