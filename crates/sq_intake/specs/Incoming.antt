-- Streams that come in pieces.
use Rattle.std.specs.Prelude.{◌≡◌, ℕ, ◌+◌, ◌^◌, ◌≤◌, max, ◌==◌, if◌then◌else◌, List, [], ◌∷◌, ◌++◌, Option, Some, None, Result, Ok, Err}
use Rattle.std.specs.List.{AllByRecursion, cons_option}
use Rattle.std.specs.Str.Lines.{strip_carriage_return}
use Rattle.sq_value.specs.declared.Kind.{Kind}
use Rattle.sq_value.specs.declared.Tuple.{Tuple}
use Rattle.sq_value.specs.Values.{Columns, kinds_of}
use Rattle.sq_value.specs.Texts.{read_number}
use Rattle.sq_replay.specs.declared.why.Why.{Why}
use Rattle.sq_replay.specs.FileLines.{pieces_of, without_mark}
use Rattle.sq_replay.specs.Streams.{tuple_of_line}

-- what lines come to: their tuples up to the first bad one, and that one's number and the first rule that it breaks, where there is one
pub record Told : Type 0 where
  pub tuples : List Tuple
  pub bad : Option (ℕ × Why)

abbrev pub told : List Tuple → Option (ℕ × Why) → Told
told tuples bad = record { tuples = tuples; bad = bad }

abbrev pub nothing_told : Told
nothing_told = told [] None

-- with these tuples in front
abbrev pub told_behind : List Tuple → Told → Told
told_behind front later = told (front ++ later.tuples) later.bad

-- the tick of a punctuation, `@` and 1 to 13 digits: no tuple before it comes any more
abbrev pub punctuation_in : List ℕ → Option ℕ
punctuation_in [] = None
punctuation_in (b ∷ bs) = if b == 64 then read_number 13 (2 ^ 40) bs else None

abbrev pub brought_by : ℕ → Option ℕ → Result Tuple Why → Result (Option Tuple × ℕ) Why
brought_by latest mark (Ok x) = Ok (Some x, x.time)
brought_by latest None (Err why) = Err why
brought_by latest (Some tick) (Err why) = Ok (None, max latest tick)

-- what a line brings, where nothing before `latest` comes any more: a tuple or none, and the tick before which nothing comes behind it
abbrev pub brings : List Kind → ℕ → List ℕ → Result (Option Tuple × ℕ) Why
brings ks latest [] = Ok (None, latest)
brings ks latest (b ∷ bs) = brought_by latest (punctuation_in (b ∷ bs)) (tuple_of_line ks latest (b ∷ bs))

-- a line without one carriage return at its end, and the first without a mark of byte order
abbrev pub bare_line : ℕ → List ℕ → List ℕ
bare_line n piece = strip_carriage_return (if n == 1 then without_mark piece else piece)

abbrev pub and_told : ℕ → Result (Option Tuple × ℕ) Why → (ℕ → Told) → Told
and_told n (Ok p) behind = told_behind (cons_option p.0 []) (behind p.1)
and_told n (Err why) behind = told [] (Some (n, why))

-- what pieces come to, the first of which is line n; lines without bytes are counted and skipped
abbrev pub told_from : List Kind → ℕ → ℕ → List (List ℕ) → Told
told_from ks latest n [] = nothing_told
told_from ks latest n (piece ∷ pieces) = and_told n (brings ks latest (bare_line n piece)) (λ later. told_from ks later (n + 1) pieces)

-- what a text comes to
abbrev pub told_in : Columns → List ℕ → Told
told_in cs bytes = told_from (kinds_of cs) 0 1 (pieces_of bytes)

-- a stream of which some lines have passed: the kinds of its columns, the tick before which no tuple comes any more, how many lines have passed,
-- and the bytes that came behind them
pub record Incoming : Type 0 where
  pub kinds : List Kind
  pub latest : ℕ
  pub passed : ℕ
  pub text : List ℕ

abbrev pub incoming : List Kind → ℕ → ℕ → List ℕ → Incoming
incoming ks latest passed text = record { kinds = ks; latest = latest; passed = passed; text = text }

-- no line has passed
abbrev pub nothing_passed : List Kind → Incoming
nothing_passed ks = incoming ks 0 0 []

-- what is still to be told, where these bytes come and then the end
abbrev pub to_be_told : Incoming → List ℕ → Told
to_be_told s bytes = told_from s.kinds s.latest (s.passed + 1) (pieces_of (s.text ++ bytes))

-- a piece came: whatever comes behind it, what was known and what was to be told with the piece is what is known and what is to be told
abbrev pub MovesBy : Incoming → Incoming → List ℕ → List Tuple → List Tuple → Type 0
MovesBy before after piece known now = (rest : List ℕ) → told_behind known (to_be_told before (piece ++ rest)) ≡ told_behind now (to_be_told after rest)

-- a piece came with a bad line: whatever comes behind it, what was known and what was to be told is what is known, and that this line is bad
abbrev pub Halts : Incoming → List ℕ → List Tuple → List Tuple → ℕ → Why → Type 0
Halts before piece known now line why = (rest : List ℕ) → told_behind known (to_be_told before (piece ++ rest)) ≡ told now (Some (line, why))

-- no tuple is behind a tick
abbrev pub NoneAfter : ℕ → List Tuple → Type 0
NoneAfter tick xs = AllByRecursion (λ x. x.time ≤ tick) xs
