-- The schemas of the sources.
use Rattle.std.specs.Prelude.{ℕ, ◌+◌, Bool, not, ◌&&◌, ◌==◌, if◌then◌else◌, List, [], ◌∷◌, ◌++◌, Option, Some, None, Result, Ok, codes}
use Rattle.std.specs.List.{list_any, before_first, after_first}
use Rattle.sq_words.specs.Lists.{same_bytes, contains_bytes}
use Rattle.sq_value.specs.Values.{Columns}
use Rattle.sq_value.specs.declared.Kind.{Kind}
use Rattle.sq_value.specs.declared.Kind.TheVariants as kind
use Rattle.sq_net.specs.declared.NetErr.{NetErr}
use Rattle.sq_net.specs.declared.NetErr.TheVariants as broken
use Rattle.sq_net.specs.declared.Part.TheVariants as part
use Rattle.sq_net.specs.declared.Source.{Source}
use Rattle.sq_net.specs.Names.{is_name}
use Rattle.sq_tables.specs.declared.tables.SourceTable.{SourceTable}
use Rattle.sq_tables.specs.Places.{place_at}
use Rattle.sq_tables.specs.Tables.{or_broken}
use Rattle.sq_words.specs.Results.{◌>>=◌}

abbrev pub is_colon : ℕ → Bool
is_colon b = b == 58

abbrev pub kind_named : List ℕ → Option Kind
kind_named w =
    if same_bytes w (codes "int") then Some kind.Int
    else (if same_bytes w (codes "bool") then Some kind.Bool else (if same_bytes w (codes "text") then Some kind.Text else None))

abbrev pub column_with : List ℕ → List (List ℕ) → Option Kind → Option (List ℕ × Kind)
column_with name before None = None
column_with name before (Some k) = if is_name name && not (contains_bytes name before) then Some (name, k) else None

-- an entry `name:kind` with a name that isn't one of those before
abbrev pub column_in : List (List ℕ) → List ℕ → Option (List ℕ × Kind)
column_in before w =
    if list_any is_colon w then column_with (before_first is_colon w) before (kind_named (after_first is_colon w)) else None

abbrev pub columns_from : ℕ → ℕ → List (List ℕ) → List (List ℕ) → Result Columns NetErr
columns_from n i before [] = Ok []
columns_from n i before (w ∷ ws) = do
  c ← or_broken (broken.Schema (place_at part.Source n i)) (column_in before w)
  cs ← columns_from n (i + 1) (before ++ c.0 ∷ []) ws
  Ok (c ∷ cs)

abbrev pub told_source : SourceTable → Columns → Source
told_source s cs = record { name = s.name; file = s.file; schema = cs }

abbrev pub sources_from : ℕ → List SourceTable → Result (List Source) NetErr
sources_from n [] = Ok []
sources_from n (s ∷ ss) = do
  cs ← columns_from n 0 [] s.fields
  rest ← sources_from (n + 1) ss
  Ok (told_source s cs ∷ rest)
