-- What stands above: the first window drop below which an output, an arc or a box lies.
use Rattle.std.specs.Prelude.{Bool, List, None, Option, Some, ℕ, [], ◌+◌, ◌==◌, if◌then◌else◌, ◌∷◌, unwrap_or, slice_get}
use Rattle.sq_place.specs.declared.DropPoint.{DropPoint}
use Rattle.sq_net.specs.declared.Network.{Network}
use Rattle.sq_words.specs.Lists.{contains_number}
use Rattle.std.specs.List.{list_any, find}
use Rattle.sq_points.specs.Points.{points_of}
use Rattle.std.specs.Option.{option_map}
use Rattle.sq_place.specs.Places.{own_arcs}

-- the first of some drops, by number, that passes a test
abbrev pub first_drop : (DropPoint → Bool) → ℕ → List DropPoint → Option (ℕ × DropPoint)
first_drop test w [] = None
first_drop test w (p ∷ ps) = if test p then Some (w, p) else first_drop test (w + 1) ps

-- the drop above an output, and above an arc
abbrev pub drop_above_output : Network → ℕ → Option (ℕ × DropPoint)
drop_above_output n o = first_drop (λ p. contains_number p.outputs o) 0 (points_of n)

abbrev pub drop_above_arc : Network → ℕ → Option (ℕ × DropPoint)
drop_above_arc n a = first_drop (λ p. list_any (λ d. d.0 == a) p.reach) 0 (points_of n)

-- the distance of an arc below a drop
abbrev pub distance_of : DropPoint → ℕ → ℕ
distance_of p a = unwrap_or (option_map (λ d. d.1) (find (λ d. d.0 == a) p.reach)) 0

-- the first drop that passes a test, by its number
abbrev pub found_at : Option ℕ → List DropPoint → Option (ℕ × DropPoint)
found_at None ps = None
found_at (Some w) ps = option_map (λ p. (w, p)) (slice_get ps w)

-- the drop that stands on an arc, and the drop that a box is below
abbrev pub drop_on_arc : Network → ℕ → Option (ℕ × DropPoint)
drop_on_arc n a = first_drop (λ p. contains_number (own_arcs n.wires p.at) a) 0 (points_of n)

abbrev pub drop_above_box : Network → ℕ → Option (ℕ × DropPoint)
drop_above_box n b = first_drop (λ p. contains_number p.boxes b) 0 (points_of n)
