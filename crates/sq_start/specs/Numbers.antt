-- The actors of a network as operators: 0, 1, .. are the boxes, then the drops, then the outputs, and behind them the replay.
use Rattle.std.specs.Prelude.{ℕ, ◌+◌, ◌-◌, ◌<◌, nat_lt, List, [], ◌∷◌, map, length, Option, Some, None, slice_get, if◌then◌else◌}
use Rattle.sq_graph.specs.Wires.{producer_of, input_arcs_of, output_arc_at}
use Rattle.sq_place.specs.declared.DropPoint.{DropPoint}
use Rattle.sq_place.specs.declared.DropAt.{DropAt}
use Rattle.sq_place.specs.declared.DropAt.TheVariants as at
use Rattle.sq_place.specs.Places.{stream_on}
use Rattle.sq_net.specs.declared.Network.{Network}
use Rattle.sq_points.specs.Points.{points_of, drops_in}
use Rattle.sq_below.specs.Actors.{Actor, Sources, Box, WindowDrop, OutputGate, giver, arc_from}

-- the first output, behind the boxes and the drops
abbrev pub first_output : Network → ℕ
first_output n = length n.boxes + drops_in n

-- how many operators there are
abbrev pub ops_of : Network → ℕ
ops_of n = first_output n + length n.wires.outputs

-- the seat of an actor
abbrev pub seat_of_actor : Network → Actor → ℕ
seat_of_actor n Sources = ops_of n
seat_of_actor n (Box b) = b
seat_of_actor n (WindowDrop w) = length n.boxes + w
seat_of_actor n (OutputGate o) = first_output n + o

-- the actor at a seat
abbrev pub actor_at : Network → ℕ → Actor
actor_at n k =
    if nat_lt k (length n.boxes) then Box k
    else if nat_lt k (first_output n) then WindowDrop (k - length n.boxes)
    else if nat_lt k (ops_of n) then OutputGate (k - first_output n)
    else Sources

-- the actor is there
abbrev pub IsThere : Network → Actor → Type 0
IsThere n Sources = Unit {0}
IsThere n (Box b) = b < length n.boxes
IsThere n (WindowDrop w) = w < drops_in n
IsThere n (OutputGate o) = o < length n.wires.outputs

-- the stream at a place
abbrev pub place_stream : Network → DropAt → ℕ
place_stream n (at.Stream s) = s
place_stream n (at.Arc a) = stream_on n.wires a

-- what an actor reads, by port: the actor and the port that give it. A drop reads the stream of its place from its own giver
abbrev pub window_drop_reads : Network → Option DropPoint → List (Actor × ℕ)
window_drop_reads n None = []
window_drop_reads n (Some p) = giver (producer_of n.wires (place_stream n p.at)) ∷ []

abbrev pub reads_of : Network → Actor → List (Actor × ℕ)
reads_of n Sources = []
reads_of n (Box b) = map (arc_from n) (input_arcs_of n.wires b)
reads_of n (WindowDrop w) = window_drop_reads n (slice_get (points_of n) w)
reads_of n (OutputGate o) = arc_from n (output_arc_at n.wires o) ∷ []
