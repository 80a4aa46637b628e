use Rattle.std.proofs.Common.{drop}
use Rattle.std.specs.List.{flat_map}
use Rattle.sq_csv.specs.Cuts.{Lacks}
use Rattle.sq_value.specs.Values.{kinds_of}
use Rattle.sq_intake.specs.Incoming.{nothing_passed}
use Rattle.sq_intake.proofs.PiecesLemmas.{Joined}
use Rattle.sq_intake.proofs.pieces.read_pieces.Given as goal

abbrev pub invariant-loop-piece : goal.invariant-loop-piece
invariant-loop-piece l = record {
  joined : Joined l.fn.tuples.items (nothing_passed (kinds_of l.fn.schema)) (flat_map (λ p. p.items) l.pieces) l.tuples.items l.intake (flat_map (λ p. p.items) (drop l.piece-index l.pieces));
  lacks : Lacks 10 l.intake.text;
}
