use Rattle.sq_join.proofs.sides.let_go.Goals as goal

pub returns-in-Some-clause-indexes : goal.returns-in-Some-clause-indexes
returns-in-Some-clause-indexes c = λ on may. c.let_go.ensures.indexes on (rw c.in-Some.is at may)
