-- Which tuples each box is fed, and how much work that is.
use Rattle.std.specs.Prelude.{ℕ, ◌+◌, ◌-◌, ◌*◌, ◌/◌, not, ◌==◌, nat_lt, List, length, Option, Some, None}
use Rattle.std.specs.List.{filter, sum_by}
use Rattle.sq_value.specs.declared.Tuple.{Tuple}
use Rattle.sq_words.specs.Lists.{numbers_to, max_by}
use Rattle.sq_graph.specs.Wires.{input_arcs_of, output_arc_at}
use Rattle.sq_place.specs.declared.DropPoint.{DropPoint}
use Rattle.sq_place.specs.Points.{until_of}
use Rattle.sq_model.specs.FullStreams.{full_arc}
use Rattle.sq_points.specs.Points.{points_of}
use Rattle.sq_model.specs.Shedding.{Replay, is_dropped, full_at, touched_batches}
use Rattle.sq_points.specs.Above.{drop_above_arc, distance_of}

-- until which tick the batches that begin by a tick and are permitted need tuples
abbrev pub needed_until : Replay → ℕ → DropPoint → ℕ → ℕ
needed_until r w p t =
    max_by (until_of p) (filter (λ b. not (is_dropped r w p b)) (numbers_to (t / p.length + 1)))

-- the tuples of an arc that some permitted batch may need
abbrev pub needed : Replay → Option (ℕ × DropPoint) → ℕ → List Tuple → List Tuple
needed r None a xs = xs
needed r (Some d) a xs =
    filter (λ x. nat_lt x.time (needed_until r d.0 d.1 x.time - distance_of d.1 a)) xs

-- the kept tuples of an arc
abbrev pub kept_of : Replay → ℕ → List Tuple
kept_of r a = needed r (drop_above_arc r.network a) a (full_arc r.network r.sources a)

-- how many tuples a box is fed
abbrev pub fed_of : Replay → ℕ → ℕ
fed_of r b = sum_by (λ a. length (kept_of r a)) (input_arcs_of r.network.wires b)

-- how many tuples all boxes, drops and outputs are fed
abbrev pub work_of : Replay → ℕ
work_of r =
    sum_by (fed_of r) (numbers_to (length r.network.boxes))
    + sum_by (λ p. length (full_at r p.at)) (points_of r.network)
    + sum_by (λ o. length (kept_of r (output_arc_at r.network.wires o))) (numbers_to (length r.network.outputs))

-- the work, and for each drop a mark of each touched batch on each arc below it
abbrev pub turns_of : Replay → ℕ
turns_of r = work_of r + sum_by (λ p. length (touched_batches r p) * length p.reach) (points_of r.network)
