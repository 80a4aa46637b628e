-- What the arcs below a window drop carry: by the marks and the kept tuples, and by the boxes on the way.
use Rattle.std.specs.Prelude.{ℕ, zero, suc, ◌-◌, if◌then◌else◌, List, [], map, length, Option, Some, None, slice_get, slice_index_or}
use Rattle.sq_words.specs.Lists.{max_by, contains_number}
use Rattle.sq_graph.specs.Wires.{producer_of, input_arcs_of}
use Rattle.sq_graph.specs.declared.Producer.{Producer}
use Rattle.sq_graph.specs.declared.Producer.TheVariants.{Source, Port}
use Rattle.sq_place.specs.declared.DropPoint.{DropPoint}
use Rattle.sq_place.specs.Places.{stream_on, own_arcs}
use Rattle.sq_place.specs.Points.{until_of}
use Rattle.sq_net.specs.declared.Body.TheVariants as body
use Rattle.sq_model.specs.Shedding.{Replay, is_dropped, full_at, touched_batches}
use Rattle.sq_model.specs.KeptTuples.{kept_of}
use Rattle.sq_tagged.specs.TaggedStreams.{Timed, Tagged, lessened_by}
use Rattle.sq_tagged.specs.Boxes.{mark_of, drop_tagged, aggregate_tagged, filter_tagged, map_tagged, union_tagged}
use Rattle.sq_points.specs.Above.{distance_of}
use Rattle.sq_net.specs.declared.Body.{Body}
use Rattle.sq_net.specs.declared.Node.{Node}
use Rattle.sq_aggfn.specs.Functions.{answers_of}
use Rattle.sq_expr.specs.Checking.{trees}

abbrev pub nothing_tagged : Tagged
nothing_tagged = record { marks = []; tuples = [] }

abbrev pub nth_tagged : List Tagged → ℕ → Tagged
nth_tagged xs i = slice_index_or xs i nothing_tagged

-- what a box gives at a port for the marked streams of its inputs, whose bounds lag by so much behind its own
abbrev pub box_tagged : Body → ℕ → List ℕ → List Tagged → Tagged
box_tagged (body.Filter ps) port lags ins = filter_tagged (trees ps) port (nth_tagged ins 0)
box_tagged (body.Map es) port lags ins = map_tagged (trees es) (nth_tagged ins 0)
box_tagged body.Union port lags ins = union_tagged lags ins
box_tagged (body.BSort by slack) port lags ins = nothing_tagged
box_tagged (body.Aggregate fs group window) port lags ins = aggregate_tagged (answers_of fs) group window (nth_tagged ins 0)
box_tagged (body.Join size on) port lags ins = nothing_tagged
box_tagged (body.Resample size fs) port lags ins = nothing_tagged

abbrev pub box_tagged_at : Option Node → ℕ → List ℕ → List Tagged → Tagged
box_tagged_at None port lags ins = nothing_tagged
box_tagged_at (Some b) port lags ins = box_tagged b.body port lags ins

module _ (r : Replay) (w : ℕ) (p : DropPoint) where
  -- the marks that the drop makes
  abbrev pub drop_marks : List Timed
  drop_marks = map (mark_of (is_dropped r w p) (until_of p) p.length) (touched_batches r p)

  -- Marked: the marks with bounds less by the distance, and the kept tuples
  abbrev pub marked_arc : ℕ → Tagged
  marked_arc a = record { marks = lessened_by (distance_of p a) drop_marks; tuples = kept_of r a }

  -- what the drop gives
  abbrev pub given_by_drop : Tagged
  given_by_drop = drop_tagged (is_dropped r w p) (until_of p) p.length (touched_batches r p) (full_at r p.at)

  -- how much nearer each input of a box is than its farthest
  abbrev pub lags_at : ℕ → List ℕ
  lags_at b =
      let arcs = input_arcs_of r.network.wires b in
      map (λ a. max_by (distance_of p) arcs - distance_of p a) arcs

  abbrev pub carried_by : (ℕ → Tagged) → Option Producer → Tagged
  carried_by before None = nothing_tagged
  carried_by before (Some (Source s)) = nothing_tagged
  carried_by before (Some (Port b q)) =
      box_tagged_at (slice_get r.network.boxes b) q (lags_at b) (map before (input_arcs_of r.network.wires b))

  -- what an arc carries, where at most so many boxes stand between it and the drop
  abbrev pub carried_within : ℕ → ℕ → Tagged
  carried_within zero a = if contains_number (own_arcs r.network.wires p.at) a then given_by_drop else nothing_tagged
  carried_within (suc boxes) a =
      if contains_number (own_arcs r.network.wires p.at) a then given_by_drop
      else carried_by (carried_within boxes) (producer_of r.network.wires (stream_on r.network.wires a))

  abbrev pub carried : ℕ → Tagged
  carried a = carried_within (length r.network.wires.boxes) a
