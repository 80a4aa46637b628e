use Rattle.std.proofs.Common.{length}
use Rattle.sq_plain.proofs.ports.Ports.+are_guessed.Given as goal

abbrev pub decreases-are_guessed : goal.decreases-are_guessed
decreases-are_guessed l = length l.preds.now
