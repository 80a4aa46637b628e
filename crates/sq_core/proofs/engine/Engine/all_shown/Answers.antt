use Rattle.sq_core.proofs.EndLemmas.{shown-all, shown-all-on}
use Rattle.sq_core.proofs.engine.Engine.all_shown.Goals as goal

pub returns-clause-run : goal.returns-clause-run
returns-clause-run c r = shown-all c.args.self.now c.requires.done (λ r read. c.early_drop_is_sound.ensures.follow r read.sound read.streams read.fit) r c.nothing_left.ensures.known

pub returns-clause-run_on : goal.returns-clause-run_on
returns-clause-run_on c r tails =
    shown-all-on c.args.self.now c.requires.done (λ r read. c.early_drop_is_sound.ensures.follow r read.sound read.streams read.fit) r tails (c.nothing_left.ensures.on tails)
