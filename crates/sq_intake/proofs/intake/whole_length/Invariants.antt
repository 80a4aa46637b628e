use Rattle.std.proofs.Common.{◌≤◌, drop, length}
use Rattle.sq_csv.specs.Cuts.{Lacks}
use Rattle.sq_intake.proofs.intake.whole_length.Given as goal

abbrev pub invariant-loop-at : goal.invariant-loop-at
invariant-loop-at l = record {
  lacks : Lacks 10 (drop l.at l.piece);
  within : l.at ≤ length l.piece;
}

abbrev pub decreases-loop-at : goal.decreases-loop-at
decreases-loop-at l = l.at
