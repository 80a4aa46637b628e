use Rattle.sq_flow.specs.Tails.{with_tails}
use Rattle.sq_flow.proofs.DoneLemmas.{nothing-comes}
use Rattle.sq_flow.proofs.engine.Engine.nothing_left.Goals as goal

pub returns-clause-known : goal.returns-clause-known
returns-clause-known g c = nothing-comes _ c.args.self.now.flow c.requires.engine c.requires.done

pub returns-clause-on : goal.returns-clause-on
returns-clause-on g c = λ tails fits. nothing-comes _ (with_tails tails c.args.self.now.flow) fits.keeps c.requires.done
