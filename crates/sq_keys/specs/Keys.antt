-- By which columns the sources are cut that words name, or the first pair that names none.
use Rattle.std.specs.Prelude.{◌≡◌, ⊤, ℕ, ◌+◌, Bool, if◌then◌else◌, List, [], ◌∷◌, ◌++◌, map, length, Option, Some, None, Result, Ok, Err}
use Rattle.std.specs.List.{find, list_any, position}
use Rattle.sq_words.specs.Lists.{same_bytes}
use Rattle.sq_value.specs.Values.{Columns, names_of}
use Rattle.sq_net.specs.declared.Source.{Source}
use Rattle.sq_keys.specs.declared.Pair.{Pair}
use Rattle.sq_teller.specs.declared.KeyWhy.{KeyWhy}
use Rattle.sq_teller.specs.declared.KeyWhy.TheVariants as why
use Rattle.sq_keys.specs.declared.KeysErr.{KeysErr}
use Rattle.sq_keys.specs.declared.KeysErr.TheVariants as keys

abbrev pub source_named : List Source → List ℕ → Option Source
source_named sources name = find (λ s. same_bytes s.name name) sources

-- the number of the column with this name
abbrev pub column_named : Columns → List ℕ → Option ℕ
column_named columns name = position (same_bytes name) (names_of columns)

abbrev pub pair_named : List Pair → List ℕ → Option Pair
pair_named pairs source = find (λ p. same_bytes p.source source) pairs

abbrev pub is_paired : List Pair → List ℕ → Bool
is_paired pairs source = list_any (λ p. same_bytes p.source source) pairs

abbrev pub no_field : Option ℕ → Option KeyWhy
no_field None = Some why.NoField
no_field (Some column) = None

-- the first rule that a pair breaks, where its source is this and these pairs stand before it
abbrev pub key_why : Option Source → List Pair → Pair → Option KeyWhy
key_why None before p = Some why.NoSource
key_why (Some s) before p = if is_paired before p.source then Some why.Twice else no_field (column_named s.schema p.field)

abbrev pub why_bad : List Source → List Pair → Pair → Option KeyWhy
why_bad sources before p = key_why (source_named sources p.source) before p

abbrev pub or_later : ℕ → Option KeyWhy → Option (ℕ × KeyWhy) → Option (ℕ × KeyWhy)
or_later key None later = later
or_later key (Some w) later = Some (key, w)

-- the first pair, by its number from 1, that breaks a rule, where these stand before them
abbrev pub first_bad : List Source → List Pair → List Pair → Option (ℕ × KeyWhy)
first_bad sources before [] = None
first_bad sources before (p ∷ ps) = or_later (length before + 1) (why_bad sources before p) (first_bad sources (before ++ p ∷ []) ps)

abbrev pub column_by : Source → Option Pair → Option ℕ
column_by s None = None
column_by s (Some p) = column_named s.schema p.field

-- the column that the pairs name for a source, or none
abbrev pub column_for : List Pair → Source → Option ℕ
column_for pairs s = column_by s (pair_named pairs s.name)

abbrev pub unless_bad : Option (ℕ × KeyWhy) → List (Option ℕ) → Result (List (Option ℕ)) (ℕ × KeyWhy)
unless_bad None by = Ok by
unless_bad (Some bad) by = Err bad

-- for each source the column by which it is cut, or none where each part has it whole
abbrev pub cuts_asked : List Source → List Pair → Result (List (Option ℕ)) (ℕ × KeyWhy)
cuts_asked sources pairs = unless_bad (first_bad sources [] pairs) (map (column_for pairs) sources)

-- the first pair that breaks a rule, or memory ran out
abbrev pub IsBadKey : Result (List (Option ℕ)) (ℕ × KeyWhy) → KeysErr → Type 0
IsBadKey said (keys.Bad key w) = said ≡ Err (key, w)
IsBadKey said keys.Memory = ⊤
