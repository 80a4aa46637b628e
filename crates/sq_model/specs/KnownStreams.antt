-- What is worked out of a replay once: its full streams, the streams of its arcs, its drop points and its levels.
--     arc_in, place_in     the full stream of an arc, and at a place
--     IsSafe               what can be counted with
--     IsKnown              it is of this replay
use Rattle.std.specs.Prelude.{◌≡◌, ℕ, ◌/◌, ◌<◌, ◌^◌, List, [], map, length, Option, Some, None, slice_get}
use Rattle.std.specs.List.{All}
use Rattle.sq_value.specs.declared.Tuple.{Tuple}
use Rattle.sq_value.specs.Values.{IsStream}
use Rattle.sq_graph.specs.Wires.{arcs_of}
use Rattle.sq_place.specs.declared.DropAt.{DropAt}
use Rattle.sq_place.specs.declared.DropAt.TheVariants as at
use Rattle.sq_net.specs.SoundNetworks.{IsSound}
use Rattle.sq_points.specs.Points.{points_of}
use Rattle.sq_model.specs.declared.known.Known.{Known}
use Rattle.sq_model.specs.FullStreams.{full_streams}
use Rattle.sq_model.specs.Shedding.{Replay}
use Rattle.sq_model.specs.GivenLevels.{IsMeasured, LevelsAre}
use Rattle.sq_words.specs.Lists.{nth}

abbrev pub streams_in : Known → List (List Tuple)
streams_in k = map (λ t. t.items) k.streams.items

abbrev pub stream_or_none : List (List Tuple) → Option ℕ → List Tuple
stream_or_none streams None = []
stream_or_none streams (Some s) = nth streams s

abbrev pub arc_in : Known → ℕ → List Tuple
arc_in k a = stream_or_none (streams_in k) (slice_get k.arcs.items a)

abbrev pub stream_at_place : Known → DropAt → List Tuple
stream_at_place k (at.Stream s) = nth (streams_in k) s
stream_at_place k (at.Arc a) = arc_in k a

pub record IsSafe (k : Known) : Type 0 where
  pub streams : All IsStream (streams_in k)
  pub measured : All IsMeasured k.points.items
  pub few_points : length k.points.items < 2 ^ 32
  pub few_arcs : length k.arcs.items < 2 ^ 32
  pub closed : 2 ^ 40 / k.levels.epoch < k.levels.closed

pub record IsKnown (k : Known) (r : Replay) : Type 0 where
  pub sound : IsSound r.network
  pub streams : streams_in k ≡ full_streams r.network r.sources
  pub arcs : k.arcs.items ≡ map (λ a. a.stream) (arcs_of r.network.wires)
  pub points : k.points.items ≡ points_of r.network
  pub levels : LevelsAre k.levels r
  pub seed : k.seed ≡ r.seed
