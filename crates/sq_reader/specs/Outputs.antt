-- The outputs, and the rule on their quality graphs.
use Rattle.std.specs.Prelude.{ℕ, ◌+◌, ◌-◌, ◌^◌, min, List, [], ◌∷◌, map, ℤ, pos, negsuc, Option, None, option_map}
use Rattle.sq_qos.specs.Graphs.{Points, graph_error}
use Rattle.sq_net.specs.declared.Output.{Output}
use Rattle.sq_net.specs.declared.NetErr.{NetErr}
use Rattle.sq_net.specs.declared.NetErr.TheVariants as broken
use Rattle.sq_net.specs.declared.Part.TheVariants as part
use Rattle.sq_tables.specs.declared.tables.OutputTable.{OutputTable}
use Rattle.sq_tables.specs.declared.tables.NetworkTable.{NetworkTable}
use Rattle.sq_tables.specs.Places.{part_place, or_else}
use Rattle.sq_reader.specs.Columns.{nat_of}

-- a number of a point; one that is negative, or 2^32 or more, counts as the greatest below 2^32, which is off the grid too
abbrev pub point_number : ℤ → ℕ
point_number (pos n) = min n (2 ^ 32 - 1)
point_number (negsuc n) = 2 ^ 32 - 1

abbrev pub graph_points : List (ℤ × ℤ) → Points
graph_points ps = map (λ p. (point_number p.0, point_number p.1)) ps

abbrev pub output_of : OutputTable → Output
output_of o = record { name = o.name; weight = nat_of o.weight; graph = graph_points o.graph }

-- why the points of the output of a number are no graph
abbrev pub graph_fault_at : ℕ → List (ℤ × ℤ) → Option NetErr
graph_fault_at n ps = option_map (broken.Graph (part_place part.Output n)) (graph_error (graph_points ps))

abbrev pub graph_fault_from : ℕ → List OutputTable → Option NetErr
graph_fault_from n [] = None
graph_fault_from n (o ∷ os) = or_else (graph_fault_at n o.graph) (graph_fault_from (n + 1) os)

-- the first output whose points are no graph, and why they are none
abbrev pub graph_fault : NetworkTable → Option NetErr
graph_fault r = graph_fault_from 0 r.outputs
