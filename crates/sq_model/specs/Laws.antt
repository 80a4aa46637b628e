-- What full streams are, in terms of one another alone, and what becomes of what a BSort is fed.
use Rattle.std.specs.Prelude.{◌≡◌, ℕ, ◌+◌, List, length, Some, slice_get}
use Rattle.sq_value.specs.declared.Tuple.{Tuple}
use Rattle.sq_graph.specs.Wires.{producer_of, stream_at}
use Rattle.sq_net.specs.declared.Network.{Network}
use Rattle.sq_net.specs.declared.Node.{Node}
use Rattle.sq_net.specs.declared.Body.TheVariants.{BSort}
use Rattle.sq_model.specs.FullStreams.{produced, full_stream, full_streams}
use Rattle.sq_model.specs.FullCounts.{full_fed_of, late_of}
use Rattle.sq_words.specs.Lists.{nth}

-- each stream is what its producer gives for the streams that it takes
abbrev pub FollowsBoxes : Network → List (List Tuple) → (ℕ → List Tuple) → Type 0
FollowsBoxes n sources stream = (s : ℕ) → stream s ≡ produced n sources stream (producer_of n.wires s)

-- the full streams follow the boxes, no other streams do, and the list of them has each at its number
pub record AreFull (n : Network) (sources : List (List Tuple)) : Type 0 where
  pub follow : FollowsBoxes n sources (full_stream n sources)
  pub only : (stream : ℕ → List Tuple) → FollowsBoxes n sources stream → (s : ℕ) → stream s ≡ full_stream n sources s
  pub listed : (s : ℕ) → nth (full_streams n sources) s ≡ full_stream n sources s

-- each tuple that a BSort is fed is given or late
abbrev pub LateAreTheRest : Network → List (List Tuple) → Type 0
LateAreTheRest n sources =
    (at by slack : ℕ) (b : Node) → slice_get n.boxes at ≡ Some b → b.body ≡ BSort by slack
    → length (full_stream n sources (stream_at n.wires at 0)) + late_of n sources at ≡ full_fed_of n sources at
