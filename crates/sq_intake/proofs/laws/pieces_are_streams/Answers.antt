use Rattle.sq_intake.proofs.ToldLemmas.{told_as_streams}
use Rattle.sq_intake.proofs.laws.pieces_are_streams.Goals as goal

pub returns : goal.returns
returns c = told_as_streams
