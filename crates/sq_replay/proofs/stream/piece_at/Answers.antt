use Rattle.sq_replay.proofs.RecordedLemmas.{piece_cut, piece_last}
use Rattle.sq_replay.proofs.stream.piece_at.Goals as goal

pub returns-in-Some-clause-pieces : goal.returns-in-Some-clause-pieces
returns-in-Some-clause-pieces c =
    piece_cut c.args.text.now c.in-Some.piece.now c.in-Some.field-0-1.now c.args.at c.requires c.in-Some.ensures.parts c.in-Some.ensures.first.1

pub returns-in-None-clause-pieces : goal.returns-in-None-clause-pieces
returns-in-None-clause-pieces c = piece_last c.args.text.now c.args.at c.requires c.in-None.ensures.parts
