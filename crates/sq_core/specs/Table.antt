-- What the boxes, drops and outputs of a network read, and an order of them.
use Rattle.std.specs.Prelude.{◌≡◌, ℕ, zero, suc, ◌+◌, ◌<◌, ◌≤◌, ◌==◌, if◌then◌else◌, Bool, true, false, List, [], ◌∷◌, map, length, Option, Some}
use Rattle.std.specs.Prelude.{None, is_some, slice_get}
use Rattle.std.specs.List.{All}
use Rattle.sq_value.specs.declared.Kind.{Kind}
use Rattle.sq_value.specs.Values.{Columns, kinds_of}
use Rattle.sq_words.specs.Lists.{numbers_to}
use Rattle.sq_graph.specs.Wires.{producer_of, input_arcs_of, output_arc_at}
use Rattle.sq_graph.specs.Order.{order_of}
use Rattle.sq_place.specs.declared.DropPoint.{DropPoint}
use Rattle.sq_place.specs.Places.{stream_on, arc_numbers, box_of}
use Rattle.sq_net.specs.declared.Network.{Network}
use Rattle.sq_net.specs.SoundNetworks.{IsSound}
use Rattle.sq_net.specs.Streams.{columns_of_stream}
use Rattle.sq_points.specs.Points.{points_of}
use Rattle.sq_model.specs.GivenLevels.{IsAt}
use Rattle.sq_below.specs.Actors.{Actor, Sources, Box, WindowDrop, OutputGate, giver, arc_from}
use Rattle.sq_start.specs.Numbers.{first_output, ops_of, seat_of_actor, actor_at, place_stream}
use Rattle.sq_flow.specs.declared.wires.Wires.{Wires}
use Rattle.sq_flow.specs.Wiring.{arcs_read, arc_wired, IsShaped}
use Rattle.sq_core.specs.declared.join.Feed.{Feed}
use Rattle.sq_core.specs.declared.network.Topology.{Topology}
use Rattle.sq_core.specs.Joining.{IsOf}
use Rattle.sq_points.specs.Above.{drop_above_arc}

-- the kinds of the values of a stream's tuples, by its columns
abbrev pub kinds_on : Option Columns → List Kind
kinds_on None = []
kinds_on (Some cs) = kinds_of cs

-- the streams of the arcs, by number
abbrev pub streams_on : Network → List ℕ
streams_on n = map (stream_on n.wires) (arc_numbers n.wires)

-- a sound network with its drop points, the streams of its arcs, and the number of its replay
pub record IsTopology (it : Topology) : Type 0 where
  pub sound : IsSound it.n.now
  pub points : it.points.now ≡ points_of it.n.now
  pub places : All (λ p. IsAt it.n.now p.at) it.points.now
  pub streams : it.streams.now ≡ streams_on it.n.now
  pub replay : it.replay ≡ ops_of it.n.now

-- the feed that takes a stream from a port of an actor
abbrev pub feed_from : Network → ℕ → Bool → Actor × ℕ → Feed
feed_from n stream marked x = record { from = seat_of_actor n x.0; port = x.1; kinds = kinds_on (columns_of_stream n stream); marked = marked }

-- the feed of an arc: it comes from the drop that stands on it, or else from what gives its stream; below a drop its
-- marks come on it
abbrev pub arc_feed : Network → ℕ → Feed
arc_feed n a = feed_from n (stream_on n.wires a) (is_some (drop_above_arc n a)) (arc_from n a)

-- the feed of a drop: it comes from what gives the stream at its place
abbrev pub place_feed : Network → DropPoint → Feed
place_feed n p = feed_from n (place_stream n p.at) false (giver (producer_of n.wires (place_stream n p.at)))

abbrev pub point_row : Network → Option DropPoint → List Feed
point_row n None = []
point_row n (Some p) = place_feed n p ∷ []

-- what an actor reads, by port
abbrev pub feeds_row : Network → Actor → List Feed
feeds_row n Sources = []
feeds_row n (Box b) = map (arc_feed n) (input_arcs_of n.wires b)
feeds_row n (WindowDrop w) = point_row n (slice_get (points_of n) w)
feeds_row n (OutputGate o) = arc_feed n (output_arc_at n.wires o) ∷ []

-- what each operator reads
abbrev pub feed_table : Network → List (List Feed)
feed_table n = map (λ k. feeds_row n (actor_at n k)) (numbers_to (ops_of n))

-- these, and in front of them others, the last first
abbrev pub turned : List ℕ → List ℕ → List ℕ
turned done [] = done
turned done (x ∷ xs) = turned (x ∷ done) xs

-- whether a stream is given by this box, or by a source
abbrev pub same_box : Option ℕ → Option ℕ → Bool
same_box None None = true
same_box None (Some b) = false
same_box (Some a) None = false
same_box (Some a) (Some b) = a == b

abbrev pub box_giving : Network → DropPoint → Option ℕ
box_giving n p = box_of (producer_of n.wires (place_stream n p.at))

-- the drops whose stream a box gives, or a source, of those from a number on
abbrev pub drops_from : Network → Option ℕ → ℕ → List DropPoint → List ℕ
drops_from n box first [] = []
drops_from n box first (p ∷ ps) = if same_box (box_giving n p) box then first ∷ drops_from n box (first + 1) ps else drops_from n box (first + 1) ps

abbrev pub drops_behind : Network → Option ℕ → List ℕ
drops_behind n box = drops_from n box (length n.boxes) (points_of n)

-- boxes in their order, each with the drops whose stream it gives, in front of earlier operators; the last first
abbrev pub with_boxes : Network → List ℕ → List ℕ → List ℕ
with_boxes n [] done = done
with_boxes n (b ∷ bs) done = with_boxes n bs (turned (b ∷ done) (drops_behind n (Some b)))

abbrev pub with_outputs : ℕ → ℕ → List ℕ → List ℕ
with_outputs first zero order = order
with_outputs first (suc k) order = (first + k) ∷ with_outputs first k order

-- the outputs, then the boxes with their drops, and behind all the drops on streams of sources: the last first
abbrev pub actors_of : Network → List ℕ
actors_of n = with_outputs (first_output n) (length n.wires.outputs) (with_boxes n (order_of n.wires) (turned [] (drops_behind n None)))

-- each operator reads an arc for each feed of its row, and it is as the feed says
pub record IsTabled (n : Network) (w : Wires) : Type 0 where
  pub many : (actor : ℕ) → actor < ops_of n → length (arcs_read w actor) ≡ length (feeds_row n (actor_at n actor))
  pub each : (actor port : ℕ) (f : Feed) → actor < ops_of n → slice_get (feeds_row n (actor_at n actor)) port ≡ Some f
      → IsOf (arc_wired w (slice_get (arcs_read w actor) port)) (Some f)
  pub no_more : (actor : ℕ) → ops_of n ≤ actor → arcs_read w actor ≡ []

-- the wires of a network: its boxes, behind them its drops, and then its outputs, read what the network says
pub record AreWires (n : Network) (w : Wires) : Type 0 where
  pub shaped : IsShaped w (ops_of n)
  pub measured : IsTabled n w
  pub sheds : w.sheds ≡ length n.boxes
  pub shown : w.shown ≡ first_output n
