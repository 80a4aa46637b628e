use Rattle.std.proofs.Common.{◌≡◌}
use Rattle.sq_core.specs.Table.{with_outputs}
use Rattle.sq_core.proofs.network.add_outputs.Given as goal

abbrev pub invariant-loop-output : goal.invariant-loop-output
invariant-loop-output l = l.all.items ≡ with_outputs l.first l.output l.initial.all.items
