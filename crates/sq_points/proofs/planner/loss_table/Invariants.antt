use Rattle.std.proofs.Common.{◌≡◌, map, take}
use Rattle.sq_qos.specs.Graphs.{loss_steps_of}
use Rattle.sq_points.specs.Losses.{AreFalls}
use Rattle.sq_points.proofs.planner.loss_table.Given as goal

abbrev pub invariant-loop-output : goal.invariant-loop-output
invariant-loop-output l = record {
  table : l.table.items ≡ map (λ o. loss_steps_of o.graph o.weight) (take l.output-index l.n.outputs);
  falls : AreFalls l.table.items;
}
