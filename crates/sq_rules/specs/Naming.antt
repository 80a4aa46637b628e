-- The rules on names: their form, and that none stands twice in its space.
use Rattle.std.specs.Prelude.{ℕ, ◌+◌, ◌-◌, nat_lt, if◌then◌else◌, List, [], ◌∷◌, ◌++◌, map, length, Option, Some, None, option_map}
use Rattle.std.specs.List.{list_any}
use Rattle.std.specs.Str.{bytes_eq}
use Rattle.sq_net.specs.declared.Part.TheVariants as part
use Rattle.sq_net.specs.declared.Place.{Place}
use Rattle.sq_net.specs.Names.{is_name}
use Rattle.sq_tables.specs.declared.tables.NetworkTable.{NetworkTable}
use Rattle.sq_tables.specs.Places.{part_place, or_else}
use Rattle.sq_rules.specs.Limits.{first_failing}

abbrev pub name_place : NetworkTable → Option Place
name_place r = or_else
    (option_map (part_place part.Source) (first_failing (λ s. is_name s.name) r.sources))
    (or_else
    (option_map (part_place part.Box) (first_failing (λ b. is_name b.name) r.boxes))
    (option_map (part_place part.Output) (first_failing (λ o. is_name o.name) r.outputs)))

-- the number, counted from n, of the first name that is one of `seen` or an earlier one
abbrev pub repeat_after : List (List ℕ) → ℕ → List (List ℕ) → Option ℕ
repeat_after seen n [] = None
repeat_after seen n (x ∷ xs) = if list_any (bytes_eq x) seen then Some n else repeat_after (seen ++ x ∷ []) (n + 1) xs

-- the number of the first name that repeats an earlier one
abbrev pub first_repeat : List (List ℕ) → Option ℕ
first_repeat names = repeat_after [] 0 names

-- sources and boxes share one space of names: the sources, then the boxes
abbrev pub space_names : NetworkTable → List (List ℕ)
space_names r = map (λ s. s.name) r.sources ++ map (λ b. b.name) r.boxes

abbrev pub place_in_space : NetworkTable → ℕ → Place
place_in_space r n = if nat_lt n (length r.sources) then part_place part.Source n else part_place part.Box (n - length r.sources)

-- outputs have a space of their own
abbrev pub twice_place : NetworkTable → Option Place
twice_place r = or_else
    (option_map (place_in_space r) (first_repeat (space_names r)))
    (option_map (part_place part.Output) (first_repeat (map (λ o. o.name) r.outputs)))
