use Rattle.sq_flow.specs.Tails.{with_tails}
use Rattle.sq_core.specs.Runs.{flow_of}
use Rattle.sq_core.proofs.EndLemmas.{nothing-planned}
use Rattle.sq_core.proofs.engine.Engine.nothing_left.Goals as goal

pub returns-clause-known : goal.returns-clause-known
returns-clause-known c = record { coming = c.nothing_left.ensures.known; plans = nothing-planned (flow_of c.args.self.now) c.requires.sound.engine.flow c.requires.done }

pub returns-clause-on : goal.returns-clause-on
returns-clause-on c tails fits =
    record { coming = c.nothing_left.ensures.on tails fits; plans = nothing-planned (with_tails tails (flow_of c.args.self.now)) fits.keeps c.requires.done }
