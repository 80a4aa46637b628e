-- Streams whose tuples fit the columns that the network says.
use Rattle.std.specs.Prelude.{◌≡◌, ℕ, true, List, [], Option, Some, None, slice_get}
use Rattle.std.specs.List.{AllByRecursion}
use Rattle.sq_value.specs.declared.Tuple.{Tuple}
use Rattle.sq_value.specs.Values.{Columns, fields_fit}
use Rattle.sq_net.specs.declared.Network.{Network}
use Rattle.sq_net.specs.declared.Source as source
use Rattle.sq_net.specs.Streams.{columns_of_stream}
use Rattle.sq_model.specs.FullStreams.{full_stream}
use Rattle.sq_words.specs.Lists.{nth}

-- where there are columns each tuple fits them, and where there are none there is no tuple
abbrev pub FitsOption : Option Columns → List Tuple → Type 0
FitsOption None xs = xs ≡ []
FitsOption (Some cs) xs = AllByRecursion (λ (x : Tuple). fields_fit cs x.fields ≡ true) xs

-- what each source recorded fits its columns
abbrev pub SourcesFit : Network → List (List Tuple) → Type 0
SourcesFit n sources = (s : ℕ) (x : source.Source) → slice_get n.sources s ≡ Some x → FitsOption (Some x.schema) (nth sources s)

-- each full stream fits its columns
abbrev pub StreamsFit : Network → List (List Tuple) → Type 0
StreamsFit n sources = (s : ℕ) → FitsOption (columns_of_stream n s) (full_stream n sources s)
