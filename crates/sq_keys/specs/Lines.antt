-- What is written of each output: whether its answer can be had from parts, and by which columns.
use Rattle.std.specs.Prelude.{ℕ, Bool, not, if◌then◌else◌, List, [], ◌∷◌, ◌++◌, length, Option, Some, None, slice_index_or, codes}
use Rattle.std.specs.List.{find, flat_map, list_any}
use Rattle.sq_words.specs.Lists.{numbers_to}
use Rattle.sq_value.specs.Values.{Columns, names_of}
use Rattle.sq_net.specs.declared.Network.{Network}
use Rattle.sq_net.specs.declared.Output.{Output}
use Rattle.sq_net.specs.Streams.{columns_of_stream}
use Rattle.sq_teller.specs.Boxes.{named_box}
use Rattle.sq_shard.specs.declared.Cut.{Cut}
use Rattle.sq_shard.specs.declared.Cut.TheVariants.{Whole, By}
use Rattle.sq_shard.specs.Keys.{cut_at, cuts_of, is_known_cut, loses_key}

abbrev pub names_given : Option Columns → List (List ℕ)
names_given None = []
names_given (Some columns) = names_of columns

-- the names of the columns of a stream
abbrev pub names_at : Network → ℕ → List (List ℕ)
names_at n stream = names_given (columns_of_stream n stream)

abbrev pub column_text : List (List ℕ) → ℕ → List ℕ
column_text names column = codes "," ++ slice_index_or names column []

abbrev pub cut_text : List (List ℕ) → Cut → List ℕ
cut_text names Whole = codes ",whole"
cut_text names (By []) = codes ",lost"
cut_text names (By (c ∷ columns)) = codes ",cut" ++ flat_map (column_text names) (c ∷ columns)

-- NAME,whole or NAME,cut,COL.. or NAME,lost
abbrev pub keys_line : Network → List Cut → Output → ℕ → List ℕ
keys_line n cuts o stream = o.name ++ (cut_text (names_at n stream) (cut_at cuts stream) ++ codes "\n")

abbrev pub output_lines : Network → List Cut → List Output → List ℕ → List ℕ
output_lines n cuts [] streams = []
output_lines n cuts (o ∷ os) [] = []
output_lines n cuts (o ∷ os) (s ∷ ss) = keys_line n cuts o s ++ output_lines n cuts os ss

-- whether nothing is known of one of these streams in a part
abbrev pub some_lost : List Cut → List ℕ → Bool
some_lost cuts streams = list_any (λ s. not (is_known_cut (cut_at cuts s))) streams

-- the first box that loses the key
abbrev pub loss_line : Network → Bool → List Cut → List ℕ
loss_line n on_time cuts = named_box (codes "@loses") n (find (loses_key n on_time (cut_at cuts)) (numbers_to (length n.boxes)))

abbrev pub text_by : Network → Bool → List Cut → List ℕ
text_by n on_time cuts =
    output_lines n cuts n.outputs n.wires.outputs ++ (if some_lost cuts n.wires.outputs then loss_line n on_time cuts else [])

-- a line for each output, and where one is lost the box that loses the key first
abbrev pub keys_text : Network → List (Option ℕ) → Bool → List ℕ
keys_text n by on_time = text_by n on_time (cuts_of n by on_time)

-- whether an output is lost
abbrev pub is_lost : Network → List (Option ℕ) → Bool → Bool
is_lost n by on_time = some_lost (cuts_of n by on_time) n.wires.outputs
