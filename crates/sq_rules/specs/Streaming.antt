-- The streams by name and number, and the wiring.
use Rattle.std.specs.Prelude.{ℕ, ◌+◌, Bool, is_some, if◌then◌else◌, List, [], ◌∷◌, ◌++◌, map, length, position, Option, Some, None, option_map}
use Rattle.std.specs.List.{flat_map, filter_map, find}
use Rattle.std.specs.Borrow.{Bor}
use Rattle.std.specs.Map.{lookup}
use Rattle.std.specs.Str.{bytes_eq}
use Rattle.sq_words.specs.Lists.{same_bytes, numbers_to}
use Rattle.sq_graph.specs.declared.BoxKind.{BoxKind}
use Rattle.sq_graph.specs.declared.BoxKind.TheVariants as boxes
use Rattle.sq_graph.specs.declared.BoxWires.{BoxWires}
use Rattle.sq_graph.specs.declared.Wiring.{Wiring}
use Rattle.sq_graph.specs.Order.{is_on_cycle}
use Rattle.sq_net.specs.declared.Part.TheVariants as part
use Rattle.sq_net.specs.declared.Place.{Place}
use Rattle.sq_tables.specs.declared.tables.BodyTable.{BodyTable}
use Rattle.sq_tables.specs.declared.tables.BodyTable.TheVariants.{Filter, Map, Union, BSort, Aggregate, Join, Resample}
use Rattle.sq_tables.specs.declared.tables.BoxTable.{BoxTable}
use Rattle.sq_tables.specs.declared.tables.NetworkTable.{NetworkTable}
use Rattle.sq_tables.specs.Places.{place_at, part_place, or_else}
use Rattle.sq_rules.specs.Limits.{first_failing}
use Rattle.sq_tables.specs.Shapes.{port_count}
use Rattle.sq_net.specs.Names.{port_name}

-- the streams of a box
abbrev pub told_port_names : List ℕ → BodyTable → List (List ℕ)
told_port_names name (Filter preds) = map (λ i. port_name name (i + 1)) (numbers_to (length preds + 1))
told_port_names name b = name ∷ []

-- the streams: each source, then those of each box
abbrev pub told_stream_names : NetworkTable → List (List ℕ)
told_stream_names r = map (λ s. s.name) r.sources ++ flat_map (λ b. told_port_names b.name b.body) r.boxes

-- the number of a stream, by these names
abbrev pub told_stream_named : List (List ℕ) → List ℕ → Option ℕ
told_stream_named names w = position (same_bytes w) names

-- a way to number texts; what follows goes by any
abbrev pub Numbers : Type 0
Numbers = List ℕ → Option ℕ

-- the number that a table has at a text
abbrev pub number_named : List (Bor (List ℕ) × ℕ) → Numbers
number_named es w = lookup (λ k. bytes_eq w k.now) es

-- the numbers once a text has this one, where it had none
abbrev pub also_numbered : Numbers → List ℕ → ℕ → Numbers
also_numbered number_of x n w = or_else (number_of w) (if same_bytes w x then Some n else None)

abbrev pub is_stream : Numbers → List ℕ → Bool
is_stream number_of w = is_some (number_of w)

abbrev pub unknown_in_boxes : Numbers → ℕ → List BoxTable → Option Place
unknown_in_boxes number_of n [] = None
unknown_in_boxes number_of n (b ∷ bs) =
    or_else (option_map (place_at part.Box n) (first_failing (is_stream number_of) b.ins)) (unknown_in_boxes number_of (n + 1) bs)

-- the first name that is no stream's
abbrev pub unknown_among : Numbers → NetworkTable → Option Place
unknown_among number_of r = or_else
    (unknown_in_boxes number_of 0 r.boxes)
    (option_map (part_place part.Output) (first_failing (λ o. is_stream number_of o.from) r.outputs))

abbrev pub unknown_place : NetworkTable → Option Place
unknown_place r = unknown_among (told_stream_named (told_stream_names r)) r

abbrev pub kind_of_told_body : BodyTable → BoxKind
kind_of_told_body (Filter preds) = boxes.Filter
kind_of_told_body (Map set) = boxes.Map
kind_of_told_body Union = boxes.Union
kind_of_told_body (BSort by slack) = boxes.BSort
kind_of_told_body (Aggregate size advance phase group give) = boxes.Aggregate
kind_of_told_body (Join size on) = boxes.Join
kind_of_told_body (Resample size give) = boxes.Resample

abbrev pub box_wires : Numbers → BoxTable → BoxWires
box_wires number_of b = record { kind = kind_of_told_body b.body; inputs = filter_map number_of b.ins; ports = port_count b.body }

abbrev pub wiring_by : Numbers → NetworkTable → Wiring
wiring_by number_of r = record {
  sources = length r.sources;
  boxes = map (box_wires number_of) r.boxes;
  outputs = filter_map (λ o. number_of o.from) r.outputs;
}

abbrev pub wiring_of : NetworkTable → Wiring
wiring_of r = wiring_by (told_stream_named (told_stream_names r)) r

-- the least box on a cycle
abbrev pub cycle_in : Wiring → Option Place
cycle_in w = option_map (part_place part.Box) (find (is_on_cycle w) (numbers_to (length w.boxes)))
