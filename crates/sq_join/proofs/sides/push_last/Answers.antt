use Rattle.sq_join.proofs.sides.push_last.Goals as goal

pub returns-in-Some : goal.returns-in-Some
returns-in-Some c = λ on may. c.push_last.ensures on (rw c.in-Some.is at may)
