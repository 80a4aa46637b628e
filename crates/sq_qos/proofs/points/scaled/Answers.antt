use Rattle.std.proofs.Common.{arith}
use Rattle.sq_qos.proofs.Facts.{graph_facts}
use Rattle.sq_qos.proofs.points.scaled.Goals as goal

pub value_on-value-requires-clause-grid : goal.value_on-value-requires-clause-grid
value_on-value-requires-clause-grid c = (graph_facts c.args.points.now c.requires.graph).grid

pub value_on-value-requires-clause-rises : goal.value_on-value-requires-clause-rises
value_on-value-requires-clause-rises c = (graph_facts c.args.points.now c.requires.graph).rise

pub value_on-value-requires-clause-after : goal.value_on-value-requires-clause-after
value_on-value-requires-clause-after c =
    let facts = graph_facts c.args.points.now c.requires.graph in
    let first = facts.first in
    omega arith
