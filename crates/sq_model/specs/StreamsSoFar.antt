-- What stands among the streams while they are worked out.
use Rattle.std.specs.Prelude.{◌≡◌, ℕ, true, List}
use Rattle.sq_value.specs.declared.Tuple.{Tuple}
use Rattle.sq_graph.specs.Wires.{producer_of}
use Rattle.sq_graph.specs.Order.{is_given}
use Rattle.sq_net.specs.declared.Network.{Network}
use Rattle.sq_model.specs.FullStreams.{full_stream}
use Rattle.sq_words.specs.Lists.{nth}

-- each stream that a source or one of these boxes gives is its full stream
abbrev pub Stands : Network → List (List Tuple) → List ℕ → List (List Tuple) → Type 0
Stands n sources placed streams = (s : ℕ) → is_given placed (producer_of n.wires s) ≡ true → nth streams s ≡ full_stream n sources s
