use Rattle.std.proofs.Common.{refl}
use Rattle.sq_graph.proofs.FirstCycle.{first_on_cycle, none_on_cycle}
use Rattle.sq_rules.proofs.rules.order_in.Goals as goal

pub returns-in-Ok-clause-acyclic : goal.returns-in-Ok-clause-acyclic
returns-in-Ok-clause-acyclic c = rw (none_on_cycle c.args.w.now c.in-Ok.ensures.acyclic) refl

pub returns-in-Err-Cycle-clause-err : goal.returns-in-Err-Cycle-clause-err
returns-in-Err-Cycle-clause-err c = λ _.
    let least = rw c.in-Err-Cycle.field-0-is at c.in-Err-Cycle.ensures.cycle in
    (c.in-Err-Cycle.at, refl, rw (first_on_cycle c.args.w.now c.in-Err-Cycle.at least) refl)
