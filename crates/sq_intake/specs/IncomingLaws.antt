-- What comes in pieces is read as one text is.
use Rattle.std.specs.Prelude.{◌≡◌, ◌≢◌, ⊤, ℕ, ◌+◌, ◌≤◌, true, List, [], ◌∷◌, ◌++◌, length, None, Some, Ok, Err}
use Rattle.sq_value.specs.declared.Tuple.{Tuple}
use Rattle.sq_value.specs.Values.{Columns, IsTuple, fields_fit, kinds_of}
use Rattle.sq_replay.specs.declared.why.Why.{Why}
use Rattle.sq_replay.specs.declared.why.Why.TheVariants as why
use Rattle.sq_replay.specs.FileLines.{pieces_of}
use Rattle.sq_intake.specs.Incoming.{Halts, Incoming, MovesBy, bare_line, to_be_told, nothing_passed, nothing_told, punctuation_in, told, told_in}
use Rattle.sq_replay.specs.Streams.{stream_in}

-- no line is a punctuation
abbrev pub LacksPunctuation : ℕ → List (List ℕ) → Type 0
LacksPunctuation n [] = ⊤
LacksPunctuation n (piece ∷ pieces) = (punctuation_in (bare_line n piece) ≡ None) × LacksPunctuation (n + 1) pieces

-- A stream file comes to its tuples, or to its first bad line, if it has at most 1,000,000 tuples and no punctuation. A stream of which
-- nothing has come comes to what its text does; a piece that is taken in moves it by that piece, a line feed at the end says nothing, and
-- with no bytes left nothing comes. What moves it by one piece and then by another moves it by both together, so cuts don't matter
pub record ToldAsStreams : Type 0 where
  pub good : (cs : Columns) (bytes : List ℕ) (xs : List Tuple) → stream_in cs bytes ≡ Ok xs → told_in cs bytes ≡ told xs None
  pub bad : (cs : Columns) (bytes : List ℕ) (n : ℕ) (w : Why) → LacksPunctuation 1 (pieces_of bytes) → w ≢ why.TooMany → stream_in cs bytes ≡ Err (n, w) → (told_in cs bytes).bad ≡ Some (n, w)
  pub begins : (cs : Columns) (bytes : List ℕ) → to_be_told (nothing_passed (kinds_of cs)) bytes ≡ told_in cs bytes
  pub given : (s : Incoming) (piece : List ℕ) (known : List Tuple) → MovesBy s (record s { text = s.text ++ piece }) piece known known
  pub ended : (s : Incoming) → to_be_told (record s { text = s.text ++ 10 ∷ [] }) [] ≡ to_be_told s []
  pub over : (s : Incoming) → s.text ≡ [] → to_be_told s [] ≡ nothing_told
  pub cuts : (a b c : Incoming) (p q : List ℕ) (known more now : List Tuple) → MovesBy a b p known more → MovesBy b c q more now → MovesBy a c (p ++ q) known now

-- a tuple that may come where none before `latest` comes any more
pub record Comes (cs : Columns) (latest : ℕ) (x : Tuple) : Type 0 where
  pub later : latest ≤ x.time
  pub tuple : IsTuple x
  pub fits : fields_fit cs x.fields ≡ true

abbrev pub ComeInOrder : Columns → ℕ → List Tuple → Type 0
ComeInOrder cs latest [] = ⊤
ComeInOrder cs latest (x ∷ xs) = Comes cs latest x × ComeInOrder cs x.time xs

-- what is told fits the schema, and its ticks don't fall; so do the tuples that were read, up to a bad line if there is one
pub record ToldFits : Type 0 where
  pub comes : (cs : Columns) (s : Incoming) (bytes : List ℕ) → 1 ≤ length cs → length cs ≤ 16 → s.kinds ≡ kinds_of cs → ComeInOrder cs s.latest (to_be_told s bytes).tuples
  pub read : (cs : Columns) (a b : Incoming) (piece : List ℕ) (now : List Tuple) → 1 ≤ length cs → length cs ≤ 16 → a.kinds ≡ kinds_of cs → MovesBy a b piece [] now → ComeInOrder cs a.latest now
  pub halted : (cs : Columns) (a : Incoming) (piece : List ℕ) (now : List Tuple) (line : ℕ) (w : Why) → 1 ≤ length cs → length cs ≤ 16 → a.kinds ≡ kinds_of cs → Halts a piece [] now line w → ComeInOrder cs a.latest now
