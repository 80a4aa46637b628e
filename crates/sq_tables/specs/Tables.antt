-- The tables of a file one after another; the first that is out of shape refuses it.
use Rattle.std.specs.Prelude.{ℕ, ◌+◌, if◌then◌else◌, List, [], ◌∷◌, ℤ, pos, Option, Some, None, Result, Ok, Err, codes}
use Rattle.std.specs.Option.{option_and_then}
use Rattle.std.specs.Ordering.{int_eq}
use Rattle.toml.specs.Data.{Members, get_member, as_integer}
use Rattle.sq_net.specs.declared.Part.{Part}
use Rattle.sq_net.specs.declared.Part.TheVariants as part
use Rattle.sq_net.specs.declared.NetErr.{NetErr}
use Rattle.sq_net.specs.declared.NetErr.TheVariants as broken
use Rattle.sq_tables.specs.declared.tables.NetworkTable.{NetworkTable}
use Rattle.sq_tables.specs.declared.tables.Version.{Version}
use Rattle.sq_tables.specs.declared.tables.Version.TheVariants.{One, Two}
use Rattle.sq_tables.specs.Documents.{document_in}
use Rattle.sq_tables.specs.Places.{part_place}
use Rattle.sq_tables.specs.Shapes.{top_in, source_in, box_in, output_in}
use Rattle.sq_words.specs.Results.{◌>>=◌}

abbrev pub or_broken : {A : Type 0} → NetErr → Option A → Result A NetErr
or_broken e None = Err e
or_broken e (Some x) = Ok x

-- each table, read by f; the first that is out of shape
abbrev pub shaped_from : {A : Type 0} → Part → (Members → Option A) → ℕ → List Members → Result (List A) NetErr
shaped_from p f n [] = Ok []
shaped_from p f n (t ∷ ts) = do
  x ← or_broken (broken.Shape (part_place p n)) (f t)
  xs ← shaped_from p f (n + 1) ts
  Ok (x ∷ xs)

abbrev pub network_table_in : Version → Members → Result NetworkTable NetErr
network_table_in version ms = do
  t ← or_broken (broken.Shape (part_place part.Top 0)) (top_in ms)
  sources ← shaped_from part.Source source_in 0 t.sources
  boxes ← shaped_from part.Box (box_in version) 0 t.boxes
  outputs ← shaped_from part.Output output_in 0 t.outputs
  Ok (record { epoch = t.epoch; batch = t.batch; sources = sources; boxes = boxes; outputs = outputs })

-- the version, where it is there and is 1 or 2
abbrev pub version_numbered : ℤ → Option Version
version_numbered z = if int_eq z (pos 1) then Some One else (if int_eq z (pos 2) then Some Two else None)

abbrev pub version_in : Members → Option Version
version_in ms = option_and_then version_numbered (option_and_then as_integer (get_member (codes "version") ms))

abbrev pub network_table_from : Members → Result NetworkTable NetErr
network_table_from ms = or_broken broken.Version (version_in ms) >>= λ version. network_table_in version ms

-- the tables of a file's bytes, or the first rule that they break
abbrev pub network_table_of : List ℕ → Result NetworkTable NetErr
network_table_of bytes = or_broken broken.Toml (document_in bytes) >>= network_table_from
