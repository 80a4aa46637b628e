use Rattle.std.proofs.Common.{◌≡◌, ◌+◌, ◌++◌, sym, ap, ◌∙◌, drop, ℕ, List, [], ◌∷◌, Vec, Global}
use Rattle.std.specs.List.{flat_map}
use Rattle.sq_value.specs.Values.{kinds_of}
use Rattle.sq_intake.specs.Incoming.{nothing_passed}
use Rattle.sq_intake.proofs.PiecesLemmas.{ended_halts, ended_ok, joined_bad, joined_long, joined_on, next_piece, no_pieces}
use Rattle.sq_intake.proofs.pieces.read_pieces.Goals as goal

abbrev bytes_of : List (Vec ℕ Global) → List ℕ
bytes_of pieces = flat_map (λ p. p.items) pieces

pub returns-in-Err-read_all-clause-bad : goal.returns-in-Err-read_all-clause-bad
returns-in-Err-read_all-clause-bad c =
    let l = c.loop-piece in
    let pieces = c.args.pieces.now in
    let left = bytes_of (drop (l.piece-index + 1) pieces) in
    let cut : bytes_of (drop l.piece-index pieces) ≡ c.deref.result.now ++ left =
    next_piece pieces l.piece-index c.piece-item.result c.loop-piece-test.true ∙ ap (λ (v : Vec ℕ Global). v.items ++ left) (sym c.piece-item.is) ∙ ap (λ b. b ++ left) (sym c.deref.ensures.value) in
    joined_bad c.in-Err-read_all.e c.args.tuples.now.items (nothing_passed (kinds_of c.args.schema.now)) (bytes_of pieces) l.tuples.items c.read_all.new.tuples.items l.intake c.give.new.self c.deref.result.now
    (bytes_of (drop l.piece-index pieces)) left l.invariant.joined cut c.in-Ok-give.ensures.given c.in-Err-read_all.ensures.halts

pub loop-piece-preserved : goal.loop-piece-preserved
loop-piece-preserved c =
    let l = c.loop-piece in
    let pieces = c.args.pieces.now in
    let left = bytes_of (drop (l.piece-index + 1) pieces) in
    let cut : bytes_of (drop l.piece-index pieces) ≡ c.deref.result.now ++ left =
    next_piece pieces l.piece-index c.piece-item.result c.loop-piece-test.true ∙ ap (λ (v : Vec ℕ Global). v.items ++ left) (sym c.piece-item.is) ∙ ap (λ b. b ++ left) (sym c.deref.ensures.value) in
    record {
      joined =
          joined_on c.args.tuples.now.items (nothing_passed (kinds_of c.args.schema.now)) (bytes_of pieces) l.tuples.items c.read_all.new.tuples.items l.intake c.give.new.self c.read_all.new.intake c.deref.result.now
          (bytes_of (drop l.piece-index pieces)) left l.invariant.joined cut c.in-Ok-give.ensures.given c.in-Ok-read_all.ensures.moves;
      lacks = c.in-Ok-read_all.ensures.lacks;
    }

pub returns-in-Ok-give-2-clause-told : goal.returns-in-Ok-give-2-clause-told
returns-in-Ok-give-2-clause-told c =
    let l = c.loop-piece in
    let pieces = c.args.pieces.now in
    let read = c.read_all-in-Ok-give-2 in
    ended_ok read.result c.args.tuples.now.items (nothing_passed (kinds_of c.args.schema.now)) (bytes_of pieces) l.tuples.items read.new.tuples.items l.intake c.give-2.new.self read.new.intake
    (bytes_of (drop l.piece-index pieces)) l.invariant.joined (no_pieces pieces l.piece-index c.loop-piece-test.false) c.in-Ok-give-2.ensures.given read.ensures.moves read.ensures.rest

pub returns-in-Ok-give-2-clause-bad : goal.returns-in-Ok-give-2-clause-bad
returns-in-Ok-give-2-clause-bad c =
    let l = c.loop-piece in
    let pieces = c.args.pieces.now in
    let read = c.read_all-in-Ok-give-2 in
    ended_halts read.result c.args.tuples.now.items (nothing_passed (kinds_of c.args.schema.now)) (bytes_of pieces) l.tuples.items read.new.tuples.items l.intake c.give-2.new.self
    (bytes_of (drop l.piece-index pieces)) l.invariant.joined (no_pieces pieces l.piece-index c.loop-piece-test.false) c.in-Ok-give-2.ensures.given read.ensures.halts

pub returns-in-Err-clause-bad : goal.returns-in-Err-clause-bad
returns-in-Err-clause-bad c =
    let l = c.loop-piece in
    let pieces = c.args.pieces.now in
    joined_long c.in-Err.e c.args.tuples.now.items (nothing_passed (kinds_of c.args.schema.now)) (bytes_of pieces) l.tuples.items l.intake c.give.new.self c.deref.result.now (bytes_of (drop l.piece-index pieces))
    l.invariant.joined c.in-Err.ensures.halts

pub returns-clause-bad : goal.returns-clause-bad
returns-clause-bad c =
    let l = c.loop-piece in
    let pieces = c.args.pieces.now in
    joined_long c.in-Err-give.e c.args.tuples.now.items (nothing_passed (kinds_of c.args.schema.now)) (bytes_of pieces) l.tuples.items l.intake c.give-2.new.self (10 ∷ []) (bytes_of (drop l.piece-index pieces))
    l.invariant.joined c.in-Err-give.ensures.halts
