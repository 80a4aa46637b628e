-- What pieces come to, one after another.
use Rattle.std.proofs.Common.{◌≡◌, refl, sym, ap, ◌∙◌, ℕ, ◌+◌, ◌<◌, ◌≤◌, List, [], ◌∷◌, ◌++◌, length, drop, get_or, Ok, Err, None, append_assoc, Vec}
use Rattle.std.specs.List.{flat_map}
use Rattle.std.specs.Prelude.{IfErr, OnOk, Result}
use Rattle.std.proofs.lemmas.List.{append-nil, drop_all, drop_more}
use Rattle.std.proofs.lemmas.List.Concat.{flat_map-cons}
use Rattle.sq_value.specs.declared.Tuple.{Tuple}
use Rattle.sq_lines.specs.Classes.{last_piece}
use Rattle.sq_intake.specs.declared.intake.IntakeErr.{IntakeErr}
use Rattle.sq_intake.specs.declared.intake.IntakeErr.TheVariants as error
use Rattle.sq_replay.specs.FileLines.{pieces_of}
use Rattle.sq_intake.specs.Incoming.{Incoming, MovesBy, to_be_told, told, told_from, told_behind}
use Rattle.sq_intake.specs.Intakes.{IsHaltedBy, IsOverlong, IsToldUpTo}
use Rattle.sq_intake.proofs.IntakeLemmas.{end_fed, last_behind, pieces_end, told_end}

-- what was known and what a text comes to is what is known and what these bytes of it come to that are left
abbrev pub Joined : List Tuple → Incoming → List ℕ → List Tuple → Incoming → List ℕ → Type 0
Joined known start all now s left = (rest : List ℕ) → told_behind known (to_be_told start (all ++ rest)) ≡ told_behind now (to_be_told s (left ++ rest))

given_one : (s : Incoming) (piece rest : List ℕ) → to_be_told s (piece ++ rest) ≡ to_be_told (record s { text = s.text ++ piece }) rest
given_one s piece rest = ap (λ t. told_from s.kinds s.latest (s.passed + 1) (pieces_of t)) (sym (append_assoc s.text piece rest))

pub joined_on : (known : List Tuple) (start : Incoming) (all : List ℕ) (now after : List Tuple) (s fed t : Incoming) (piece whole left : List ℕ) → Joined known start all now s whole → whole ≡ piece ++ left → fed ≡ record s { text = s.text ++ piece }
    → MovesBy fed t [] now after → Joined known start all after t left
joined_on known start all now after s fed t piece whole left joined cut is moves rest =
    joined rest ∙ ap (λ b. told_behind now (to_be_told s (b ++ rest))) cut ∙ ap (λ b. told_behind now (to_be_told s b)) (append_assoc piece left rest) ∙ ap (told_behind now) (given_one s piece (left ++ rest))
    ∙ ap (λ u. told_behind now (to_be_told u (left ++ rest))) (sym is) ∙ moves (left ++ rest)

joined_given : (known : List Tuple) (start : Incoming) (all : List ℕ) (now : List Tuple) (s fed : Incoming) (piece whole left : List ℕ) → Joined known start all now s whole → whole ≡ piece ++ left → fed ≡ record s { text = s.text ++ piece }
    → told_behind known (to_be_told start all) ≡ told_behind now (to_be_told fed (left ++ []))
joined_given known start all now s fed piece whole left joined cut is =
    ap (λ t. told_behind known (to_be_told start t)) (sym (append-nil all)) ∙ joined [] ∙ ap (λ b. told_behind now (to_be_told s (b ++ []))) cut ∙ ap (λ b. told_behind now (to_be_told s b)) (append_assoc piece left [])
    ∙ ap (told_behind now) (given_one s piece (left ++ [])) ∙ ap (λ u. told_behind now (to_be_told u (left ++ []))) (sym is)

pub joined_bad : (e : IntakeErr) (known : List Tuple) (start : Incoming) (all : List ℕ) (now after : List Tuple) (s fed : Incoming) (piece whole left : List ℕ) → Joined known start all now s whole → whole ≡ piece ++ left → fed ≡ record s { text = s.text ++ piece }
    → IsHaltedBy e fed now after → IsToldUpTo e (told_behind known (to_be_told start all)) after
joined_bad (error.Bad line why) known start all now after s fed piece whole left joined cut is halts = joined_given known start all now s fed piece whole left joined cut is ∙ halts (left ++ [])
joined_bad error.TooLong known start all now after s fed piece whole left joined cut is halts = absurd halts
joined_bad error.TooMany known start all now after s fed piece whole left joined cut is halts =
    (to_be_told halts.0 (left ++ []), joined_given known start all now s fed piece whole left joined cut is ∙ halts.1 (left ++ []))
joined_bad error.Memory known start all now after s fed piece whole left joined cut is halts = tt

-- a line is too long
pub joined_long : (e : IntakeErr) (known : List Tuple) (start : Incoming) (all : List ℕ) (now : List Tuple) (s fed : Incoming) (piece left : List ℕ) → Joined known start all now s left → IsOverlong e s fed piece → IsToldUpTo e (told_behind known (to_be_told start all)) now
joined_long (error.Bad line why) known start all now s fed piece left joined over = absurd over
joined_long error.TooLong known start all now s fed piece left joined over = (to_be_told s (left ++ []), ap (λ t. told_behind known (to_be_told start t)) (sym (append-nil all)) ∙ joined [])
joined_long error.TooMany known start all now s fed piece left joined over = absurd over
joined_long error.Memory known start all now s fed piece left joined over = tt

fed_end : (s : Incoming) → to_be_told s [] ≡ to_be_told (record s { text = s.text ++ 10 ∷ [] }) []
fed_end s = end_fed s.kinds s.latest (s.passed + 1) s.text

no_text : (s : Incoming) → s.text ≡ [] → to_be_told s [] ≡ told [] None
no_text s none = ap (λ t. told_from s.kinds s.latest (s.passed + 1) (pieces_of (t ++ []))) none ∙ told_end s.kinds s.latest (s.passed + 1) []

last_fed : (text : List ℕ) → last_piece (pieces_of (text ++ 10 ∷ [])) ≡ []
last_fed text = ap last_piece (pieces_end text) ∙ last_behind (pieces_of text) [] refl

joined_ended : (known : List Tuple) (start : Incoming) (all : List ℕ) (now : List Tuple) (s fed : Incoming) (left : List ℕ) → Joined known start all now s left → left ≡ [] → fed ≡ record s { text = s.text ++ 10 ∷ [] }
    → told_behind known (to_be_told start all) ≡ told_behind now (to_be_told fed [])
joined_ended known start all now s fed left joined none is =
    ap (λ t. told_behind known (to_be_told start t)) (sym (append-nil all)) ∙ joined [] ∙ ap (λ b. told_behind now (to_be_told s (b ++ []))) none ∙ ap (told_behind now) (fed_end s) ∙ ap (λ u. told_behind now (to_be_told u [])) (sym is)

joined_end : (known : List Tuple) (start : Incoming) (all : List ℕ) (now after : List Tuple) (s fed t : Incoming) (left : List ℕ) → Joined known start all now s left → left ≡ [] → fed ≡ record s { text = s.text ++ 10 ∷ [] }
    → MovesBy fed t [] now after → t.text ≡ last_piece (pieces_of fed.text) → told_behind known (to_be_told start all) ≡ told after None
joined_end known start all now after s fed t left joined none is moves last =
    let empty : t.text ≡ [] = last ∙ ap (λ (u : Incoming). last_piece (pieces_of u.text)) is ∙ last_fed s.text in
    joined_ended known start all now s fed left joined none is ∙ moves [] ∙ ap (told_behind after) (no_text t empty) ∙ ap (λ xs. told xs None) (append-nil after)

ended_bad : (e : IntakeErr) (known : List Tuple) (start : Incoming) (all : List ℕ) (now after : List Tuple) (s fed : Incoming) (left : List ℕ) → Joined known start all now s left → left ≡ [] → fed ≡ record s { text = s.text ++ 10 ∷ [] }
    → IsHaltedBy e fed now after → IsToldUpTo e (told_behind known (to_be_told start all)) after
ended_bad (error.Bad line why) known start all now after s fed left joined none is halts = joined_ended known start all now s fed left joined none is ∙ halts []
ended_bad error.TooLong known start all now after s fed left joined none is halts = absurd halts
ended_bad error.TooMany known start all now after s fed left joined none is halts = (to_be_told halts.0 [], joined_ended known start all now s fed left joined none is ∙ halts.1 [])
ended_bad error.Memory known start all now after s fed left joined none is halts = tt

-- the bytes of pieces from one on
pub next_piece : {A : Type 0} (pieces : List (Vec ℕ A)) (i : ℕ) (d : Vec ℕ A) → i < length pieces → flat_map (λ p. p.items) (drop i pieces) ≡ (get_or pieces i d).items ++ flat_map (λ p. p.items) (drop (i + 1) pieces)
next_piece pieces i d within = ap (flat_map (λ p. p.items)) (drop_more pieces i d within) ∙ flat_map-cons (λ p. p.items) (get_or pieces i d) (drop (i + 1) pieces)

pub no_pieces : {A : Type 0} (pieces : List (Vec ℕ A)) (i : ℕ) → length pieces ≤ i → flat_map (λ p. p.items) (drop i pieces) ≡ []
no_pieces pieces i past = ap (flat_map (λ p. p.items)) (drop_all i pieces past)

pub ended_ok : (r : Result (Unit {0}) IntakeErr) (known : List Tuple) (start : Incoming) (all : List ℕ) (now after : List Tuple) (s fed t : Incoming) (left : List ℕ) → Joined known start all now s left → left ≡ [] → fed ≡ record s { text = s.text ++ 10 ∷ [] }
    → OnOk r (MovesBy fed t [] now after) → OnOk r (t.text ≡ last_piece (pieces_of fed.text)) → OnOk r (told_behind known (to_be_told start all) ≡ told after None)
ended_ok (Ok x) known start all now after s fed t left joined none is moves last = joined_end known start all now after s fed t left joined none is moves last
ended_ok (Err e) known start all now after s fed t left joined none is moves last = tt

pub ended_halts : (r : Result (Unit {0}) IntakeErr) (known : List Tuple) (start : Incoming) (all : List ℕ) (now after : List Tuple) (s fed : Incoming) (left : List ℕ) → Joined known start all now s left → left ≡ [] → fed ≡ record s { text = s.text ++ 10 ∷ [] }
    → IfErr r (λ e. IsHaltedBy e fed now after) → IfErr r (λ e. IsToldUpTo e (told_behind known (to_be_told start all)) after)
ended_halts (Ok x) known start all now after s fed left joined none is halts = tt
ended_halts (Err e) known start all now after s fed left joined none is halts = ended_bad e known start all now after s fed left joined none is halts
