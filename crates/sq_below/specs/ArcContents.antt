-- What stands on the arcs of a network whose drops work, and what its boxes, drops and outputs make of what they are fed.
use Rattle.std.specs.Prelude.{◌≡◌, ◌<◌, ◌+◌, ℕ, false, nat_lt, Bool, List, [], ◌∷◌, ◌++◌, map, length, Option, Some, None, slice_get}
use Rattle.std.specs.List.{filter}
use Rattle.sq_value.specs.declared.Value.{Value}
use Rattle.sq_value.specs.declared.Tuple.{Tuple}
use Rattle.sq_value.specs.Values.{Columns, fields_fit}
use Rattle.sq_item.specs.Things.{Thing}
use Rattle.sq_aggfn.specs.Functions.{answers_of}
use Rattle.sq_lists.specs.Boxes.{filter_list_of, map_list_of}
use Rattle.sq_lists.specs.Sorting.{bsort_list_of}
use Rattle.sq_lists.specs.Windows.{aggregate_list_of}
use Rattle.sq_lists.specs.Pairs.{pairs_from}
use Rattle.sq_lists.specs.Resamples.{resample_list_of}
use Rattle.sq_graph.specs.Wires.{producer_of, arcs_of, inputs_of, input_arcs_of, output_arc_at}
use Rattle.sq_graph.specs.declared.Producer.TheVariants.{Source, Port}
use Rattle.sq_place.specs.declared.DropPoint.{DropPoint}
use Rattle.sq_place.specs.Places.{stream_on}
use Rattle.sq_place.specs.Points.{until_of}
use Rattle.sq_net.specs.declared.Network.{Network}
use Rattle.sq_net.specs.declared.Node.{Node}
use Rattle.sq_net.specs.declared.Body.{Body}
use Rattle.sq_net.specs.declared.Body.TheVariants as body
use Rattle.sq_net.specs.Streams.{columns_of_stream}
use Rattle.sq_oper.specs.declared.tally.Position.TheVariants.{Start}
use Rattle.sq_oper.specs.Entries.{Entry}
use Rattle.sq_oper.specs.Order.{merge, unmarked, IsFuture}
use Rattle.sq_oper.specs.Streams.{tuple_in, tuples_at, tuples_of, things, at_zero, at_ports_below}
use Rattle.sq_tagged.specs.TaggedStreams.{Tagged, spread_of, tagged_of}
use Rattle.sq_tagged.specs.Boxes.{filter_tagged, map_tagged, united_tagged, aggregate_tagged, drop_tagged, batches_touched, gate_of}
use Rattle.sq_model.specs.FullStreams.{full_arc}
use Rattle.sq_model.specs.Shedding.{Replay, is_dropped, full_at, record_of, answer_of}
use Rattle.sq_model.specs.KeptTuples.{kept_of, fed_of}
use Rattle.sq_below.specs.ArcStreams.{nothing_tagged, lags_at, marked_arc}
use Rattle.sq_words.specs.Lists.{nth}
use Rattle.sq_expr.specs.Checking.{trees}
use Rattle.sq_points.specs.Above.{drop_above_output, drop_above_arc, drop_on_arc, drop_above_box}

-- a drop by its number
abbrev pub Drop : Type 0
Drop = ℕ × DropPoint

-- ---- what stands on an arc

-- below a drop its marks and the kept tuples, elsewhere the full stream
abbrev pub standing : Replay → Option Drop → ℕ → List Thing
standing r None a = things (full_arc r.network r.sources a)
standing r (Some d) a = spread_of (marked_arc r d.0 d.1 a)

abbrev pub on_arc : Replay → ℕ → List Thing
on_arc r a = standing r (drop_above_arc r.network a) a

-- what is given toward an arc: where a drop stands on it, the full stream, which the drop is fed
abbrev pub toward : Replay → Option Drop → ℕ → List Thing
toward r None a = on_arc r a
toward r (Some d) a = things (full_arc r.network r.sources a)

abbrev pub leaving : Replay → ℕ → List Thing
leaving r a = toward r (drop_on_arc r.network a) a

-- ---- what may be fed

-- marks come below a drop alone, at the ports that there are
abbrev pub takes : Option Drop → ℕ → ℕ → Bool
takes None ports port = false
takes (Some d) ports port = nat_lt port ports

-- a tuple fits a port where it fits the columns of the stream there
abbrev pub fits_columns : Option Columns → List Value → Bool
fits_columns None fields = false
fits_columns (Some cs) fields = fields_fit cs fields

abbrev pub fits_stream : Network → Option ℕ → List Value → Bool
fits_stream n None fields = false
fits_stream n (Some s) fields = fits_columns (columns_of_stream n s) fields

abbrev pub fits_inputs : Network → List ℕ → ℕ → List Value → Bool
fits_inputs n streams port fields = fits_stream n (slice_get streams port) fields

-- ---- what a new box gives at a port for all that it will be fed

-- the tuples of a tagged list with their ports
abbrev pub port_tuples : List Entry → List (ℕ × Tuple)
port_tuples [] = []
port_tuples (e ∷ es) = map (λ x. (e.port, x)) (tuple_in e.thing.time e.thing.content) ++ port_tuples es

-- where no marks come: its list function
abbrev pub plain_list : Body → List Entry → List Tuple
plain_list (body.Filter ps) es = filter_list_of (trees ps) 0 (tuples_of es)
plain_list (body.Map exprs) es = map_list_of (trees exprs) (tuples_of es)
plain_list body.Union es = tuples_of es
plain_list (body.BSort by slack) es = bsort_list_of by slack (tuples_of es)
plain_list (body.Aggregate fs group window) es = aggregate_list_of fs group window (tuples_of es)
plain_list (body.Join size on) es = pairs_from size on.tree [] (port_tuples es)
plain_list (body.Resample size fs) es = resample_list_of fs size (tuples_at 0 es) (tuples_at 1 es)

abbrev pub plain_gives : Body → List Entry → ℕ → List Thing
plain_gives (body.Filter ps) es q = things (filter_list_of (trees ps) q (tuples_of es))
plain_gives b es q = at_zero q (things (plain_list b es))

-- below a drop: its function on streams with marks, where the bounds of its inputs lag by so much behind its own
abbrev pub marked_list : Body → List ℕ → List Entry → Tagged
marked_list (body.Filter ps) lags es = filter_tagged (trees ps) 0 (tagged_of es)
marked_list (body.Map exprs) lags es = map_tagged (trees exprs) (tagged_of es)
marked_list body.Union lags es = united_tagged lags es
marked_list (body.BSort by slack) lags es = nothing_tagged
marked_list (body.Aggregate fs group window) lags es = aggregate_tagged (answers_of fs) group window (tagged_of es)
marked_list (body.Join size on) lags es = nothing_tagged
marked_list (body.Resample size fs) lags es = nothing_tagged

abbrev pub marked_gives : Body → List ℕ → List Entry → ℕ → List Thing
marked_gives (body.Filter ps) lags es q = at_ports_below (length ps + 1) q (spread_of (filter_tagged (trees ps) q (tagged_of es)))
marked_gives b lags es q = at_zero q (spread_of (marked_list b lags es))

abbrev pub box_gives : Replay → Option Drop → ℕ → Body → List Entry → ℕ → List Thing
box_gives r None b x es q = plain_gives x es q
box_gives r (Some d) b x es q = marked_gives x (lags_at r d.0 d.1 b) es q

-- a window drop, and its dropped batches
abbrev pub drop_gives_all : Replay → Drop → List Entry → List Thing
drop_gives_all r d es =
    spread_of (drop_tagged (is_dropped r d.0 d.1) (until_of d.1) (d.1).length (batches_touched (d.1).length (d.1).keep (tuples_of es)) (tuples_of es))

abbrev pub drop_decides_all : Replay → Drop → List Entry → List ℕ
drop_decides_all r d es = filter (is_dropped r d.0 d.1) (batches_touched (d.1).length (d.1).keep (tuples_of es))

-- an output: a gate with the batch's length below a drop, else one without
abbrev pub gate_gives_all : Option Drop → List Entry → List Tuple
gate_gives_all None es = tuples_of es
gate_gives_all (Some d) es = gate_of (d.1).length (tagged_of es)

-- ---- the laws

-- all that a box will be fed
abbrev pub box_fed : Replay → ℕ → List Entry
box_fed r b = merge (map (on_arc r) (input_arcs_of r.network.wires b))

-- a box may be fed all that stands on its arcs, and gives what leaves it
pub record BoxesFit (r : Replay) : Type 0 where
  pub future : (b : ℕ)
      → IsFuture (takes (drop_above_box r.network b) (length (inputs_of r.network.wires b))) (fits_inputs r.network (inputs_of r.network.wires b)) Start (box_fed r b)
  pub gives : (a b q : ℕ) (x : Node) → producer_of r.network.wires (stream_on r.network.wires a) ≡ Some (Port b q) → slice_get r.network.boxes b ≡ Some x
      → box_gives r (drop_above_box r.network b) b x.body (box_fed r b) q ≡ leaving r a

-- a source gives its recorded tuples
abbrev pub SourcesGive : Replay → Type 0
SourcesGive r = (a s : ℕ) → producer_of r.network.wires (stream_on r.network.wires a) ≡ Some (Source s) → things (nth r.sources s) ≡ leaving r a

-- all that a drop will be fed
abbrev pub drop_fed : Replay → DropPoint → List Entry
drop_fed r p = merge (things (full_at r p.at) ∷ [])

-- a drop may be fed the full stream, gives what stands on its own arcs, and drops what is recorded
pub record DropsFit (r : Replay) : Type 0 where
  pub future : (w : ℕ) (p : DropPoint) (a : ℕ) → a < length (arcs_of r.network.wires) → drop_on_arc r.network a ≡ Some (w, p)
      → IsFuture unmarked (fits_inputs r.network (stream_on r.network.wires a ∷ [])) Start (drop_fed r p)
  pub gives : (w : ℕ) (p : DropPoint) (a : ℕ) → a < length (arcs_of r.network.wires) → drop_on_arc r.network a ≡ Some (w, p) → drop_gives_all r (w, p) (drop_fed r p) ≡ on_arc r a
  pub takes_full : (w : ℕ) (p : DropPoint) (a : ℕ) → a < length (arcs_of r.network.wires) → drop_on_arc r.network a ≡ Some (w, p) → things (full_at r p.at) ≡ leaving r a
  pub decides : (w : ℕ) (p : DropPoint) → drop_decides_all r (w, p) (drop_fed r p) ≡ record_of r w p

-- all that an output will be fed
abbrev pub output_fed : Replay → ℕ → List Entry
output_fed r o = merge (on_arc r (output_arc_at r.network.wires o) ∷ [])

-- an output may be fed all that stands on its arc, and shows the answer
pub record OutputsFit (r : Replay) : Type 0 where
  pub future : (o : ℕ)
      → IsFuture (takes (drop_above_output r.network o) 1) (fits_inputs r.network (stream_on r.network.wires (output_arc_at r.network.wires o) ∷ [])) Start (output_fed r o)
  pub shows : (o : ℕ) → gate_gives_all (drop_above_output r.network o) (output_fed r o) ≡ answer_of r o

-- how many tuples boxes, drops and outputs are fed in all
pub record FedCounted (r : Replay) : Type 0 where
  pub boxes : (b : ℕ) → length (tuples_of (box_fed r b)) ≡ fed_of r b
  pub drops : (p : DropPoint) → length (tuples_of (drop_fed r p)) ≡ length (full_at r p.at)
  pub outputs : (o : ℕ) → length (tuples_of (output_fed r o)) ≡ length (kept_of r (output_arc_at r.network.wires o))
