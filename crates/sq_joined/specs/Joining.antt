-- The joined network: what one stream of a network needs, a Filter on that stream that lets pass what comes from a tick on, and
-- a query behind it in place of the query's source.
use Rattle.std.specs.Prelude.{ℕ, zero, suc, ◌+◌, Bool, List, [], ◌∷◌, ◌++◌, map, length, pos, codes, unwrap_or}
use Rattle.sq_value.specs.Values.{Columns}
use Rattle.sq_value.specs.declared.Value.TheVariants as value
use Rattle.sq_expr.specs.Trees.{Checked, Compare, Time, Literal}
use Rattle.sq_expr.specs.declared.CompareOp.TheVariants as compare
use Rattle.sq_graph.specs.declared.BoxKind.TheVariants as boxes
use Rattle.sq_graph.specs.declared.BoxWires.{BoxWires}
use Rattle.sq_graph.specs.declared.Wiring.{Wiring}
use Rattle.sq_net.specs.declared.Network.{Network}
use Rattle.sq_net.specs.declared.Node.{Node}
use Rattle.sq_net.specs.declared.Body.TheVariants.{Filter}
use Rattle.sq_net.specs.Streams.{columns_of_stream}
use Rattle.sq_joined.specs.Staying.{needed_for, staying, stream_moved, streams_staying}

-- a box whose inputs have new numbers
abbrev pub rewired : (ℕ → ℕ) → BoxWires → BoxWires
rewired number b = record { kind = b.kind; inputs = map number b.inputs; ports = b.ports }

-- a stream of the query: its source is the first port of the tap, and its other streams follow behind the second
abbrev pub query_moved : ℕ → ℕ → ℕ
query_moved tap zero = tap
query_moved tap (suc stream) = tap + 2 + stream

abbrev pub tap_wires : ℕ → BoxWires
tap_wires stream = record { kind = boxes.Filter; inputs = stream ∷ []; ports = 2 }

abbrev pub joined_wires : Wiring → List Bool → ℕ → Wiring → Wiring
joined_wires w keep stream q = record {
  sources = w.sources;
  boxes = map (rewired (stream_moved w keep)) (staying keep w.boxes)
      ++ tap_wires (stream_moved w keep stream) ∷ map (rewired (query_moved (streams_staying w keep))) q.boxes;
  outputs = map (query_moved (streams_staying w keep)) q.outputs;
}

-- `time >= from`
abbrev pub not_before : Columns → ℕ → Checked
not_before scope from = record { scope = scope; tree = Compare compare.AtLeast Time (Literal (value.Int (pos from))) }

-- the Filter: its ports have the schema of the query's source
abbrev pub tap_box : Columns → Columns → ℕ → Node
tap_box scope schema from = record {
  name = codes "tap";
  body = Filter (not_before scope from ∷ []);
  schemas = schema ∷ schema ∷ [];
  cost = 1;
  selectivity = 1000 ∷ 1000 ∷ [];
}

-- the columns of a stream that is there; the query's source is its stream 0
abbrev pub columns : Network → ℕ → Columns
columns n stream = unwrap_or (columns_of_stream n stream) []

abbrev pub joined_by : Network → List Bool → ℕ → ℕ → Network → Network
joined_by n keep stream from q = record {
  epoch = n.epoch;
  batch = 1;
  wires = joined_wires n.wires keep stream q.wires;
  sources = n.sources;
  boxes = staying keep n.boxes ++ tap_box (columns n stream) (columns q 0) from ∷ q.boxes;
  outputs = q.outputs;
}

abbrev pub joined : Network → ℕ → ℕ → Network → Network
joined n stream from q = joined_by n (needed_for n.wires stream) stream from q

-- how many boxes stand in front of the query's
abbrev pub boxes_in_front : Network → ℕ → ℕ
boxes_in_front n stream = length (staying (needed_for n.wires stream) n.boxes) + 1
