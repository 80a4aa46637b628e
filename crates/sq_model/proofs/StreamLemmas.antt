-- Where what the sources recorded are streams, so is what each box gives.
use Rattle.std.proofs.Common.{ℕ, zero, suc, ◌+◌, List, [], ◌∷◌, map, length, Option, Some, None, slice_get, inl, inr}
use Rattle.std.specs.List.{All, AllByRecursion}
use Rattle.std.proofs.lemmas.Bool.{cases_lt}
use Rattle.std.proofs.lemmas.List.{get_or_past}
use Rattle.std.proofs.lemmas.List.Elements.{All-from_recursion}
use Rattle.sq_value.specs.declared.Tuple.{Tuple}
use Rattle.sq_words.specs.Lists.{numbers_to, nth}
use Rattle.sq_value.specs.Values.{IsStream}
use Rattle.sq_graph.specs.Wires.{producers_of, producer_of, inputs_of}
use Rattle.sq_graph.specs.declared.Producer.{Producer}
use Rattle.sq_graph.specs.declared.Producer.TheVariants.{Source, Port}
use Rattle.sq_lists.proofs.KeepLemmas.{keep_streams}
use Rattle.sq_net.specs.declared.Body.{Body}
use Rattle.sq_net.specs.declared.Body.TheVariants.{Filter, Map, Union, BSort, Aggregate, Join, Resample}
use Rattle.sq_net.specs.declared.Node.{Node}
use Rattle.sq_net.specs.declared.Network.{Network}
use Rattle.sq_model.specs.FullStreams.{box_list, produced, full_within, full_stream, full_streams, box_list_at}

-- a stream that isn't there is one of no tuples
pub stream_at_number : (streams : List (List Tuple)) (s : ℕ) → All IsStream streams → IsStream (nth streams s)
stream_at_number streams s all =
    elim (cases_lt s (length streams)) [
      | inl low ↦ all s [] low
      | inr past ↦ rw (get_or_past streams s [] past) tt
    ]

all_taken : (stream : ℕ → List Tuple) → ((s : ℕ) → IsStream (stream s)) → (numbers : List ℕ) → AllByRecursion IsStream (map stream numbers)
all_taken stream each [] = tt
all_taken stream each (s ∷ numbers) = (each s, all_taken stream each numbers)

box_keeps : (b : Body) (port : ℕ) (ins : List (List Tuple)) → AllByRecursion IsStream ins → IsStream (box_list b port ins)
box_keeps b port ins all = by_kind b
  where
    at : (i : ℕ) → IsStream (nth ins i)
    at i = stream_at_number ins i (All-from_recursion IsStream ins all)

    by_kind : (b : Body) → IsStream (box_list b port ins)
    by_kind (Filter preds) = keep_streams.filter (map (λ e. e.tree) preds) port (nth ins 0) (at 0)
    by_kind (Map exprs) = keep_streams.map (map (λ e. e.tree) exprs) (nth ins 0) (at 0)
    by_kind Union = keep_streams.union ins all
    by_kind (BSort by slack) = keep_streams.bsort by slack (nth ins 0) (at 0)
    by_kind (Aggregate funcs group window) = keep_streams.aggregate funcs group window (nth ins 0) (at 0)
    by_kind (Join size on) = keep_streams.join size on.tree (nth ins 0) (nth ins 1) (at 0) (at 1)
    by_kind (Resample size funcs) = keep_streams.resample funcs size (nth ins 0) (nth ins 1) (at 0)

-- what stands at an input, and what a box gives, where these are the inputs among streams
pub input_is_stream : (streams : List (List Tuple)) (inputs : List ℕ) (i : ℕ) → All IsStream streams → IsStream (nth (map (nth streams) inputs) i)
input_is_stream streams inputs i all =
    stream_at_number (map (nth streams) inputs) i
    (All-from_recursion IsStream (map (nth streams) inputs) (all_taken (nth streams) (λ s. stream_at_number streams s all) inputs))

pub given_is_stream : (b : Body) (port : ℕ) (streams : List (List Tuple)) (inputs : List ℕ) → All IsStream streams → IsStream (box_list b port (map (nth streams) inputs))
given_is_stream b port streams inputs all = box_keeps b port (map (nth streams) inputs) (all_taken (nth streams) (λ s. stream_at_number streams s all) inputs)

module _ (n : Network) (sources : List (List Tuple)) (all : All IsStream sources) where
  box_at_keeps : (b : Option Node) (port : ℕ) (ins : List (List Tuple)) → AllByRecursion IsStream ins → IsStream (box_list_at b port ins)
  box_at_keeps None port ins taken = tt
  box_at_keeps (Some b) port ins taken = box_keeps b.body port ins taken

  produced_is_stream : (stream : ℕ → List Tuple) → ((s : ℕ) → IsStream (stream s)) → (p : Option Producer) → IsStream (produced n sources stream p)
  produced_is_stream stream each None = tt
  produced_is_stream stream each (Some (Source s)) = stream_at_number sources s all
  produced_is_stream stream each (Some (Port at port)) = box_at_keeps (slice_get n.boxes at) port (map stream (inputs_of n.wires at)) (all_taken stream each (inputs_of n.wires at))

  within_is_stream : (boxes s : ℕ) → IsStream (full_within n sources boxes s)
  within_is_stream zero s = tt
  within_is_stream (suc boxes) s = produced_is_stream (full_within n sources boxes) (within_is_stream boxes) (producer_of n.wires s)

  pub full_are_streams : All IsStream (full_streams n sources)
  full_are_streams =
      All-from_recursion IsStream (full_streams n sources)
      (all_taken (full_stream n sources) (within_is_stream (length n.boxes + 1)) (numbers_to (length (producers_of n.wires))))
