use Rattle.std.proofs.Common.{◌≡◌, ◌+◌, [], true, cond, length}
use Rattle.sq_csv.specs.Cuts.{Lacks}
use Rattle.sq_lines.specs.Classes.{last_piece}
use Rattle.sq_replay.specs.FileLines.{pieces_of}
use Rattle.sq_intake.specs.Incoming.{MovesBy}
use Rattle.sq_intake.proofs.pieces.read_all.Given as goal

abbrev pub invariant-batches : goal.invariant-batches
invariant-batches l = record {
  moved : MovesBy l.fn.intake l.intake [] l.fn.tuples.items l.tuples.items;
  last : last_piece (pieces_of l.intake.text) ≡ last_piece (pieces_of l.fn.intake.text);
  rest : l.all ≡ true → l.intake.text ≡ last_piece (pieces_of l.fn.intake.text);
  lacks : l.all ≡ true → Lacks 10 l.intake.text;
}

abbrev pub decreases-batches : goal.decreases-batches
decreases-batches l = cond l.all 0 (length l.intake.text + 1)
