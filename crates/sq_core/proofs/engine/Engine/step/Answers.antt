use Rattle.std.proofs.Common.{refl}
use Rattle.sq_core.proofs.RunLemmas.{run-fails, runs-on}
use Rattle.sq_core.proofs.engine.Engine.step.Goals as goal

pub returns-in-Ok-clause-ok : goal.returns-in-Ok-clause-ok
returns-in-Ok-clause-ok g c = runs-on c.args.self.now (record c.args.self.now { engine = c.step.new.self }) _ _ _ _ _ _ _ _ refl c.requires.sound _ _ c.in-Ok.ensures.ok

pub returns-in-Err-clause-err : goal.returns-in-Err-clause-err
returns-in-Err-clause-err g c = run-fails c.args.self.now (record c.args.self.now { engine = c.step.new.self }) _ _ _ _ _ _ _ _ _ c.in-Err.ensures.err c.in-Err.ensures.failed

pub returns-in-Ok-clause-keeps : goal.returns-in-Ok-clause-keeps
returns-in-Ok-clause-keeps g c = c.in-Ok.ensures.ok.train.moves.keeps

pub returns-in-Err-clause-keeps : goal.returns-in-Err-clause-keeps
returns-in-Err-clause-keeps g c = c.in-Err.ensures.err.keeps
