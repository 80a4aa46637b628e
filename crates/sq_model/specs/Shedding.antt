-- Which batches are dropped, and what the outputs show.
--     Replay                        what is replayed
--     level_of r e w                the level of drop w in epoch e
--     record_of r w p               the record of drop w, which is p
--     answer_of r o                 the answer of an output
use Rattle.std.specs.Prelude.{ℕ, ◌+◌, ◌*◌, ◌/◌, Bool, not, ◌&&◌, ◌==◌, nat_lt, nat_le, if◌then◌else◌, List, [], ◌∷◌, map, Option, Some, None}
use Rattle.std.specs.List.{filter, list_any, count_by}
use Rattle.sq_value.specs.declared.Tuple.{Tuple}
use Rattle.sq_words.specs.Lists.{numbers_to, max_by, contains_number}
use Rattle.sq_graph.specs.Wires.{output_arc_at}
use Rattle.sq_place.specs.declared.DropAt.{DropAt}
use Rattle.sq_place.specs.declared.DropAt.TheVariants as at
use Rattle.sq_place.specs.declared.DropPoint.{DropPoint}
use Rattle.sq_place.specs.Points.{until_of}
use Rattle.sq_road.specs.Draws.{draw_of}
use Rattle.sq_plan.specs.Plans.{Entries}
use Rattle.sq_plan.specs.PlanRows.{level_for}
use Rattle.sq_net.specs.declared.Network.{Network}
use Rattle.sq_points.specs.Points.{setting_of}
use Rattle.sq_model.specs.FullStreams.{full_stream, full_arc}
use Rattle.sq_points.specs.Above.{drop_above_output}

-- what is replayed: a network, its recorded streams, the capacities and the seed
pub record Replay : Type 0 where
  pub network : Network
  pub sources : List (List Tuple)
  pub entries : Entries
  pub seed : ℕ

-- whether a tuple lies in a batch, or is kept for it
abbrev pub is_touched : DropPoint → List Tuple → ℕ → Bool
is_touched p xs b = list_any (λ x. nat_le (b * p.length) x.time && nat_lt x.time (until_of p b)) xs

abbrev pub last_of : List Tuple → ℕ
last_of xs = max_by (λ x. x.time) xs

-- the batches that some tuple touches, ascending; none begins after the last tuple
abbrev pub touched_by : DropPoint → List Tuple → List ℕ
touched_by p xs = filter (is_touched p xs) (numbers_to (last_of xs / p.length + 1))

module _ (r : Replay) where
  abbrev pub epoch_of : ℕ → ℕ
  epoch_of t = t / r.network.epoch

  -- how many tuples of each source arrive in an epoch
  abbrev pub counts_in : ℕ → List ℕ
  counts_in e = map (count_by (λ x. epoch_of x.time == e)) r.sources

  -- the level of a drop in an epoch, in permille
  abbrev pub batch_level : ℕ → ℕ → ℕ
  batch_level e w = level_for (setting_of r.network r.entries) counts_in e w

  -- whether batch b of drop w is to be dropped
  abbrev pub is_dropped : ℕ → DropPoint → ℕ → Bool
  is_dropped w p b = nat_lt (draw_of r.seed w b) (batch_level (epoch_of (b * p.length)) w)

  -- the full stream at a place
  abbrev pub full_at : DropAt → List Tuple
  full_at (at.Stream s) = full_stream r.network r.sources s
  full_at (at.Arc a) = full_arc r.network r.sources a

  -- the batches that a tuple at the drop touches
  abbrev pub touched_batches : DropPoint → List ℕ
  touched_batches p = touched_by p (full_at p.at)

  -- the record: the touched batches that are dropped, ascending
  abbrev pub record_of : ℕ → DropPoint → List ℕ
  record_of w p = filter (is_dropped w p) (touched_batches p)

-- the tuples of an output whose batch isn't in the record
abbrev pub shown : Replay → Option (ℕ × DropPoint) → List Tuple → List Tuple
shown r None xs = xs
shown r (Some d) xs =
    let dropped = record_of r d.0 d.1 in
    filter (λ x. not (contains_number dropped (x.time / (d.1).length))) xs

-- the answer of an output: its full answer without the batches that are dropped
abbrev pub answer_of : Replay → ℕ → List Tuple
answer_of r o = shown r (drop_above_output r.network o) (full_arc r.network r.sources (output_arc_at r.network.wires o))
