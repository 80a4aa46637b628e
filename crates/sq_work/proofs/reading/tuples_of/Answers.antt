use Rattle.sq_work.proofs.reading.tuples_of.Goals as goal
use Rattle.sq_work.proofs.SourceLemmas.{text_is_recorded}

pub returns-in-Ok-clause-recorded : goal.returns-in-Ok-clause-recorded
returns-in-Ok-clause-recorded c = text_is_recorded c.args.source.now c.args.bytes.items c.in-Ok.tuples.items c.requires.within c.in-Ok.ensures.tuples
