-- The columns of streams: those of the source, or of the port of a box, that gives the stream.
use Rattle.std.specs.Prelude.{◌≡◌, ℕ, Option, Some, None, slice_get, option_map}
use Rattle.sq_value.specs.Values.{Columns}
use Rattle.sq_graph.specs.Wires.{producer_of}
use Rattle.sq_graph.specs.declared.Producer.{Producer}
use Rattle.sq_graph.specs.declared.Producer.TheVariants.{Source, Port}
use Rattle.sq_net.specs.declared.Network.{Network}
use Rattle.sq_net.specs.declared.Node.{Node}

abbrev pub columns_of_port : Option Node → ℕ → Option Columns
columns_of_port None port = None
columns_of_port (Some b) port = slice_get b.schemas port

abbrev pub columns_given : Network → Option Producer → Option Columns
columns_given n None = None
columns_given n (Some (Source s)) = option_map (λ source. source.schema) (slice_get n.sources s)
columns_given n (Some (Port at port)) = columns_of_port (slice_get n.boxes at) port

abbrev pub columns_of_stream : Network → ℕ → Option Columns
columns_of_stream n stream = columns_given n (producer_of n.wires stream)

-- whether a stream has columns
abbrev pub IsTyped : Network → ℕ → Type 0
IsTyped n stream = (cs : Columns) × (columns_of_stream n stream ≡ Some cs)
