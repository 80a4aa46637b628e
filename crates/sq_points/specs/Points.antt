-- The drop points of a network, and what its plans are made from.
use Rattle.std.specs.Prelude.{ℕ, List, length, map, Option, Some, None, slice_get}
use Rattle.std.specs.List.{sum_by, range_with_len}
use Rattle.sq_aggfn.specs.declared.WindowSpec.{WindowSpec}
use Rattle.sq_qos.specs.Graphs.{loss_step}
use Rattle.sq_place.specs.declared.DropPoint.{DropPoint}
use Rattle.sq_place.specs.Places.{Windows}
use Rattle.sq_place.specs.Points.{drop_points_of}
use Rattle.sq_plan.specs.declared.Toll.{Toll}
use Rattle.sq_plan.specs.Plans.{Entries, Setting}
use Rattle.sq_net.specs.declared.Network.{Network}
use Rattle.sq_net.specs.declared.Output.{Output}
use Rattle.sq_net.specs.declared.Body.{Body}
use Rattle.sq_net.specs.declared.Body.TheVariants as body

abbrev pub window_in : Body → Option WindowSpec
window_in (body.Aggregate funcs group window) = Some window
window_in b = None

-- the windows of the boxes, one for each Aggregate
abbrev pub windows_of : Network → Windows
windows_of n = map (λ b. window_in b.body) n.boxes

abbrev pub points_of : Network → List DropPoint
points_of n = drop_points_of n.wires (windows_of n) n.batch

-- how many drop points a network has
abbrev pub drops_in : Network → ℕ
drops_in n = length (points_of n)

abbrev pub tolls_of : Network → List Toll
tolls_of n = map (λ b. record { cost = b.cost; selectivity = b.selectivity }) n.boxes

-- what an output loses by the k-th step of a drop above it
abbrev pub loss_at : Option Output → ℕ → ℕ
loss_at None k = 0
loss_at (Some o) k = loss_step o.graph o.weight k

-- what these outputs lose by each of the 20 steps
abbrev pub loss_below : Network → List ℕ → ℕ → ℕ
loss_below n os k = sum_by (λ o. loss_at (slice_get n.outputs o) k) os

abbrev pub losses_below : Network → List ℕ → List ℕ
losses_below n os = map (loss_below n os) (range_with_len 1 20)

abbrev pub setting_of : Network → Entries → Setting
setting_of n es = record {
  wires = n.wires;
  tolls = tolls_of n;
  points = points_of n;
  losses = map (λ p. losses_below n p.outputs) (points_of n);
  entries = es;
}
