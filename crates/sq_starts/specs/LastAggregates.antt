-- The last Aggregates of an output, and the windows that start at the times of what it shows.
--     lasts_of n o                  the Aggregates from which Filters, Maps and Unions alone lead to an output
--     StartsWindow n sources o t    a window of one of them starts at a tick, and isn't empty
use Rattle.std.specs.Prelude.{◌≡◌, ◌≢◌, ℕ, zero, suc, true, List, [], ◌∷◌, length, Option, Some, None, slice_get}
use Rattle.std.specs.List.{AllByRecursion, flat_map}
use Rattle.sq_value.specs.declared.Tuple.{Tuple}
use Rattle.sq_words.specs.Lists.{contains_number}
use Rattle.sq_aggfn.specs.declared.WindowSpec.{WindowSpec}
use Rattle.sq_aggfn.specs.Windows.{start_of}
use Rattle.sq_lists.specs.Windows.{in_window}
use Rattle.sq_graph.specs.Wires.{arc_at, input_arcs_of, output_arc_at}
use Rattle.sq_place.specs.declared.DropPoint.{DropPoint}
use Rattle.sq_place.specs.Places.{box_before, window_at}
use Rattle.sq_net.specs.declared.Network.{Network}
use Rattle.sq_net.specs.declared.Node.{Node}
use Rattle.sq_net.specs.declared.Body.{Body}
use Rattle.sq_net.specs.declared.Body.TheVariants.{Filter, Map, Union, BSort, Aggregate, Join, Resample}
use Rattle.sq_points.specs.Points.{windows_of}
use Rattle.sq_points.specs.Above.{drop_above_output}
use Rattle.sq_model.specs.FullStreams.{full_arc}

-- behind a box with a number: an Aggregate is the last itself, behind a Filter, a Map and a Union the last ones are those before it, and
-- behind the others there is none
abbrev pub lasts_by : Body → ℕ → List ℕ → List ℕ
lasts_by (Filter preds) at before = before
lasts_by (Map exprs) at before = before
lasts_by Union at before = before
lasts_by (BSort by slack) at before = []
lasts_by (Aggregate funcs group window) at before = at ∷ []
lasts_by (Join size on) at before = []
lasts_by (Resample size funcs) at before = []

abbrev pub lasts_at : Option Node → ℕ → List ℕ → List ℕ
lasts_at None at before = []
lasts_at (Some b) at before = lasts_by b.body at before

module _ (n : Network) where
  -- behind the box that gives an arc, by the last ones of the arcs that it takes
  abbrev pub lasts_behind : (ℕ → List ℕ) → Option ℕ → List ℕ
  lasts_behind before None = []
  lasts_behind before (Some at) = lasts_at (slice_get n.boxes at) at (flat_map before (input_arcs_of n.wires at))

  -- of an arc, past so many boxes at most
  abbrev pub lasts_within : ℕ → ℕ → List ℕ
  lasts_within zero a = []
  lasts_within (suc boxes) a = lasts_behind (lasts_within boxes) (box_before n.wires a)

  -- the last Aggregates of an output, by their numbers
  abbrev pub lasts_of : ℕ → List ℕ
  lasts_of o = lasts_within (length n.boxes) (output_arc_at n.wires o)

-- a window of a last Aggregate of an output starts at a tick, and a tuple lies in it of all that the Aggregate takes where nothing is dropped
pub record StartsWindow (n : Network) (sources : List (List Tuple)) (o tick : ℕ) : Type 0 where
  pub at : ℕ
  pub is_last : contains_number (lasts_of n o) at ≡ true
  pub window : WindowSpec
  pub of_box : window_at (windows_of n) at ≡ Some window
  pub number : ℕ
  pub starts : tick ≡ start_of window number
  pub filled : in_window window tick (full_arc n sources (arc_at n.wires at 0)) ≢ []

-- at the time of each tuple that an output below a drop answers in full a window starts
abbrev pub TimesAreStarts : Network → List (List Tuple) → Type 0
TimesAreStarts n sources =
    (o : ℕ) (d : ℕ × DropPoint) → drop_above_output n o ≡ Some d
    → AllByRecursion (λ x. StartsWindow n sources o x.time) (full_arc n sources (output_arc_at n.wires o))
