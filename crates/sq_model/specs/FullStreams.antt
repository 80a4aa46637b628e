-- The full answer: what the boxes give on whole streams.
use Rattle.std.specs.Prelude.{ℕ, zero, suc, ◌+◌, List, [], map, length, Option, Some, None, slice_get}
use Rattle.sq_value.specs.declared.Tuple.{Tuple}
use Rattle.sq_words.specs.Lists.{numbers_to, nth}
use Rattle.sq_graph.specs.Wires.{Arc, producers_of, producer_of, arcs_of, inputs_of}
use Rattle.sq_graph.specs.declared.Producer.{Producer}
use Rattle.sq_graph.specs.declared.Producer.TheVariants.{Source, Port}
use Rattle.sq_lists.specs.Merge.{union}
use Rattle.sq_lists.specs.Boxes.{filter_list_of, map_list_of}
use Rattle.sq_lists.specs.Sorting.{bsort_list_of}
use Rattle.sq_lists.specs.Windows.{aggregate_list_of}
use Rattle.sq_lists.specs.Pairs.{join_list_of}
use Rattle.sq_lists.specs.Resamples.{resample_list_of}
use Rattle.sq_net.specs.declared.Network.{Network}
use Rattle.sq_net.specs.declared.Body.{Body}
use Rattle.sq_net.specs.declared.Body.TheVariants.{Filter, Map, Union, BSort, Aggregate, Join, Resample}
use Rattle.sq_net.specs.declared.Node.{Node}

-- what a box gives at a port, numbered from 0, for the streams of its inputs
abbrev pub box_list : Body → ℕ → List (List Tuple) → List Tuple
box_list (Filter preds) port ins = filter_list_of (map (λ e. e.tree) preds) port (nth ins 0)
box_list (Map exprs) port ins = map_list_of (map (λ e. e.tree) exprs) (nth ins 0)
box_list Union port ins = union ins
box_list (BSort by slack) port ins = bsort_list_of by slack (nth ins 0)
box_list (Aggregate funcs group window) port ins = aggregate_list_of funcs group window (nth ins 0)
box_list (Join size on) port ins = join_list_of size on.tree (nth ins 0) (nth ins 1)
box_list (Resample size funcs) port ins = resample_list_of funcs size (nth ins 0) (nth ins 1)

abbrev pub box_list_at : Option Node → ℕ → List (List Tuple) → List Tuple
box_list_at None port ins = []
box_list_at (Some b) port ins = box_list b.body port ins

module _ (n : Network) (sources : List (List Tuple)) where
  -- what a producer gives: a source its recorded tuples, a port what its box gives for the streams that the box takes
  abbrev pub produced : (ℕ → List Tuple) → Option Producer → List Tuple
  produced stream None = []
  produced stream (Some (Source s)) = nth sources s
  produced stream (Some (Port at port)) = box_list_at (slice_get n.boxes at) port (map stream (inputs_of n.wires at))

  -- the full stream of this number, where it stands behind fewer boxes than `boxes`
  abbrev pub full_within : ℕ → ℕ → List Tuple
  full_within zero s = []
  full_within (suc boxes) s = produced (full_within boxes) (producer_of n.wires s)

  -- without a cycle no stream stands behind more boxes than there are
  abbrev pub full_stream : ℕ → List Tuple
  full_stream s = full_within (length n.boxes + 1) s

  -- the full streams of all streams, by number
  abbrev pub full_streams : List (List Tuple)
  full_streams = map full_stream (numbers_to (length (producers_of n.wires)))

  -- an arc has the full stream of its stream
  abbrev pub full_on : Option Arc → List Tuple
  full_on None = []
  full_on (Some a) = full_stream a.stream

  abbrev pub full_arc : ℕ → List Tuple
  full_arc a = full_on (slice_get (arcs_of n.wires) a)
