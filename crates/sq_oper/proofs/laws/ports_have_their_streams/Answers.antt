use Rattle.sq_oper.proofs.PortLemmas.{at-left, at-right}
use Rattle.sq_oper.proofs.laws.ports_have_their_streams.Goals as goal

pub returns-clause-left : goal.returns-clause-left
returns-clause-left c = λ left right. at-left left right

pub returns-clause-right : goal.returns-clause-right
returns-clause-right c = λ left right. at-right left right
