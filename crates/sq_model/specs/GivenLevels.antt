-- What is dropped, shown and kept, where the drop points and the levels are given.
--     drops_at table seed w p b     batch b of drop w is dropped at the levels of a table
--     record_by, needed_by          the record, and the bounds of what is needed, at these levels
use Rattle.std.specs.Prelude.{◌≡◌, ℕ, ◌+◌, ◌-◌, ◌*◌, ◌/◌, ◌≤◌, ◌<◌, ◌^◌, Bool, not, ◌&&◌, nat_lt, List, length}
use Rattle.std.specs.List.{filter, AllByRecursion}
use Rattle.sq_value.specs.declared.Tuple.{Tuple}
use Rattle.sq_words.specs.Lists.{numbers_to, max_by, contains_number}
use Rattle.sq_graph.specs.Wires.{producers_of, arcs_of}
use Rattle.sq_road.specs.Levels.{LevelTable, level_of, AgreesWith}
use Rattle.sq_road.specs.Draws.{draw_of}
use Rattle.sq_place.specs.declared.DropPoint.{DropPoint}
use Rattle.sq_place.specs.Points.{until_of}
use Rattle.sq_place.specs.declared.DropAt.{DropAt}
use Rattle.sq_place.specs.declared.DropAt.TheVariants as at
use Rattle.sq_net.specs.declared.Network.{Network}
use Rattle.sq_model.specs.Shedding.{Replay, touched_by}
use Rattle.sq_model.specs.Shedding as shed

abbrev pub drops_at : LevelTable → ℕ → ℕ → DropPoint → ℕ → Bool
drops_at table seed w p b = nat_lt (draw_of seed w b) (level_of table (b * p.length / table.epoch) w)

-- the touched batches of a full stream at the drop that are dropped
abbrev pub record_by : LevelTable → ℕ → ℕ → DropPoint → List Tuple → List ℕ
record_by table seed w p xs = filter (drops_at table seed w p) (touched_by p xs)

-- until which tick the batches up to one need tuples, as far as they are permitted
abbrev pub needed_by : LevelTable → ℕ → ℕ → DropPoint → ℕ → ℕ
needed_by table seed w p b = max_by (until_of p) (filter (λ c. not (drops_at table seed w p c)) (numbers_to (b + 1)))

-- the tuples whose batch isn't among some
abbrev pub shown_without : DropPoint → List ℕ → List Tuple → List Tuple
shown_without p dropped xs = filter (λ x. not (contains_number dropped (x.time / p.length))) xs

-- whether a batch is permitted and needs a tick, at a distance
abbrev pub needs_at : LevelTable → ℕ → ℕ → DropPoint → ℕ → ℕ → ℕ → Bool
needs_at table seed w p d t b = not (drops_at table seed w p b) && nat_lt t (until_of p b - d)

-- the tuples that some permitted batch may need, at a distance
abbrev pub kept_by : LevelTable → ℕ → ℕ → DropPoint → ℕ → List Tuple → List Tuple
kept_by table seed w p d xs = filter (λ x. nat_lt x.time (needed_by table seed w p (x.time / p.length) - d)) xs

-- lengths that can be counted with: those that no accepted network exceeds
pub record IsMeasured (p : DropPoint) : Type 0 where
  pub least : 1 ≤ p.length
  pub most : p.length ≤ 2 ^ 34
  pub keep : p.keep < 2 ^ 47

-- all times are ticks
abbrev pub AreTicks : List Tuple → Type 0
AreTicks xs = AllByRecursion (λ (x : Tuple). x.time < 2 ^ 40) xs

-- a place that is there
abbrev pub IsAt : Network → DropAt → Type 0
IsAt n (at.Stream s) = s < length (producers_of n.wires)
IsAt n (at.Arc a) = a < length (arcs_of n.wires)

-- a table has the levels of a replay
pub record LevelsAre (table : LevelTable) (r : Replay) : Type 0 where
  pub epoch : table.epoch ≡ r.network.epoch
  pub agrees : AgreesWith table (shed.batch_level r)
