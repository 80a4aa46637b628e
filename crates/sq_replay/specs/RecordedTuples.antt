-- The tuples that a source recorded, of which some still stand in its text.
use Rattle.std.specs.Prelude.{ℕ, ◌==◌, if◌then◌else◌, List, [], ◌∷◌, length, Option, None, Some, Result, Ok, Err}
use Rattle.std.specs.Str.Lines.{strip_carriage_return}
use Rattle.sq_value.specs.declared.Kind.{Kind}
use Rattle.sq_value.specs.declared.Tuple.{Tuple}
use Rattle.sq_replay.specs.declared.why.Why.{Why}
use Rattle.sq_replay.specs.FileLines.{pieces_at}
use Rattle.sq_replay.specs.Streams.{tuple_of_line}

-- the tuples that are to come, in order
pub record Recorded : Type 0 where
  pub items : List Tuple

-- the time of the first tuple, where there is one
abbrev pub first_recorded : List Tuple → Option ℕ
first_recorded [] = None
first_recorded (x ∷ xs) = Some x.time

-- a tuple and those behind it, and none where the line is bad
abbrev pub and_then : Result Tuple Why → (Tuple → List Tuple) → List Tuple
and_then (Ok x) behind = x ∷ behind x
and_then (Err why) behind = []

-- the tuples of the lines up to the first bad one; empty lines are skipped. No tuple before them is later than `latest`
abbrev pub tuples_left : List Kind → ℕ → List (List ℕ) → List Tuple
tuples_left ks latest [] = []
tuples_left ks latest (piece ∷ pieces) =
    if length (strip_carriage_return piece) == 0 then tuples_left ks latest pieces
    else and_then (tuple_of_line ks latest (strip_carriage_return piece)) (λ x. tuples_left ks x.time pieces)

-- the tuples of a text from a place on
abbrev pub tuples_recorded : List Kind → ℕ → List ℕ → ℕ → List Tuple
tuples_recorded ks latest text at = tuples_left ks latest (pieces_at text at)
