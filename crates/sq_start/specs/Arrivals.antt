-- What comes to the actors of a network on its arcs.
use Rattle.std.specs.Prelude.{◌≡◌, ℕ, Bool, true, List, [], ◌∷◌, length, Option, Some, None, is_some, slice_get}
use Rattle.sq_value.specs.declared.Value.{Value}
use Rattle.sq_value.specs.Values.{Columns, fields_fit}
use Rattle.sq_oper.specs.declared.tally.Position.TheVariants.{Start}
use Rattle.sq_oper.specs.Order.{IsFuture}
use Rattle.sq_graph.specs.Wires.{inputs_of, input_arcs_of, output_arc_at}
use Rattle.sq_place.specs.declared.DropPoint.{DropPoint}
use Rattle.sq_place.specs.Places.{stream_on}
use Rattle.sq_net.specs.declared.Network.{Network}
use Rattle.sq_net.specs.SoundNetworks.{IsSound}
use Rattle.sq_net.specs.Streams.{columns_of_stream}
use Rattle.sq_points.specs.Points.{points_of}
use Rattle.sq_model.specs.Shedding.{Replay}
use Rattle.sq_below.specs.Actors.{Actor, Sources, Box, WindowDrop, OutputGate}
use Rattle.sq_start.specs.Numbers.{IsThere, place_stream}
use Rattle.sq_start.specs.Nets.{fed_to}
use Rattle.sq_start.specs.Starts.{IsReadReplay}
use Rattle.sq_start.specs.NewOperators.{actor_marks, actor_fits}
use Rattle.sq_points.specs.Above.{drop_above_arc}

-- the arcs of a box and of an output, by port
abbrev pub arcs_to : Network → Actor → List ℕ
arcs_to n Sources = []
arcs_to n (Box b) = input_arcs_of n.wires b
arcs_to n (WindowDrop w) = []
arcs_to n (OutputGate o) = output_arc_at n.wires o ∷ []

-- the streams that an actor reads, by port
abbrev pub point_streams : Network → Option DropPoint → List ℕ
point_streams n None = []
point_streams n (Some p) = place_stream n p.at ∷ []

abbrev pub streams_to : Network → Actor → List ℕ
streams_to n Sources = []
streams_to n (Box b) = inputs_of n.wires b
streams_to n (WindowDrop w) = point_streams n (slice_get (points_of n) w)
streams_to n (OutputGate o) = stream_on n.wires (output_arc_at n.wires o) ∷ []

-- marks are taken where an arc lies below a drop, and all tuples that fit the columns of a stream
pub record TakesArcs (n : Network) (x : Actor) (marks : ℕ → Bool) (fits : ℕ → List Value → Bool) : Type 0 where
  pub marked : (port a : ℕ) → slice_get (arcs_to n x) port ≡ Some a → is_some (drop_above_arc n a) ≡ true → marks port ≡ true
  pub wide : (port s : ℕ) (cs : Columns) (fields : List Value) → slice_get (streams_to n x) port ≡ Some s → columns_of_stream n s ≡ Some cs → fields_fit cs fields ≡ true → fits port fields ≡ true

-- so all that an actor is fed may come
abbrev pub FedMayCome : Type 0
FedMayCome = (r : Replay) (x : Actor) (marks : ℕ → Bool) (fits : ℕ → List Value → Bool) → IsReadReplay r → IsThere r.network x → TakesArcs r.network x marks fits → IsFuture marks fits Start (fed_to r x)

-- and an actor takes marks wherever an arc of its own lies below a drop
abbrev pub MarksAreTaken : Type 0
MarksAreTaken = (n : Network) (x : Actor) (port a : ℕ) → IsSound n → slice_get (arcs_to n x) port ≡ Some a → is_some (drop_above_arc n a) ≡ true → actor_marks n x port ≡ true

-- and all tuples that are as wide as a stream that it reads
abbrev pub TuplesAreTaken : Type 0
TuplesAreTaken = (n : Network) (x : Actor) (port s : ℕ) (cs : Columns) (fields : List Value) → IsSound n → IsThere n x → slice_get (streams_to n x) port ≡ Some s
    → columns_of_stream n s ≡ Some cs → length fields ≡ length cs → actor_fits n x port fields ≡ true
