use Rattle.sq_core.proofs.RunLemmas.{shown-so-far, shown-so-far-on}
use Rattle.sq_core.proofs.engine.Engine.shown_so_far.Goals as goal

pub returns-clause-run : goal.returns-clause-run
returns-clause-run c = shown-so-far c.args.self.now

pub returns-clause-run_on : goal.returns-clause-run_on
returns-clause-run_on c = shown-so-far-on c.args.self.now
