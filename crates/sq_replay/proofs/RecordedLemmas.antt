-- The tuples that are left of a text, and what a test of its lines tells of them.
use Rattle.std.proofs.Common.{zero, suc, ◌≡◌, refl, sym, ap, subst, ◌∙◌, ℕ, ◌+◌, ◌-◌, ◌<◌, ◌≤◌, ◌⊎◌, ◌==◌, Bool, true, false, arith, inl, inr}
use Rattle.std.proofs.Common.{List, [], ◌∷◌, ◌++◌, length, drop, take, get_or, Ok, Err, None, Some}
use Rattle.std.specs.Prelude.{Option, Result, nat_le, if◌then◌else◌}
use Rattle.std.specs.Str.Lines.{strip_carriage_return}
use Rattle.std.proofs.Math.Seq.{drop-append-add}
use Rattle.std.proofs.lemmas.Bool.{cases_Bool, cases_lt}
use Rattle.std.proofs.lemmas.List.{drop-drop, drop_all, drop_more, length-append, length-drop, take_rest}
use Rattle.std.proofs.lemmas.Bool.Decides.{nat_tests}
use Rattle.sq_value.specs.declared.Kind.{Kind}
use Rattle.sq_value.specs.declared.Tuple.{Tuple}
use Rattle.sq_replay.specs.declared.why.Why.{Why}
use Rattle.sq_replay.specs.declared.why.Why.TheVariants as why
use Rattle.sq_csv.specs.Cuts.{behind_line, ends_line, first_line}
use Rattle.sq_csv.specs.Records.{is_mark}
use Rattle.sq_replay.specs.FileLines.{Line, lines_from, pieces_at, pieces_of, without_mark}
use Rattle.sq_replay.specs.Answers.{IsTested}
use Rattle.sq_replay.specs.Cuts.{ReadsLine}
use Rattle.sq_replay.specs.Streams.{unless, tuple_on_line, tuple_of_line, tuples_from}
use Rattle.sq_replay.specs.RecordedTuples.{and_then, tuples_left, tuples_recorded}
use Rattle.sq_replay.proofs.StreamLemmas.{empty_line, text_line}
use Rattle.sq_words.specs.Results.{◌>>=◌}
use Rattle.sq_words.proofs.Numbers.{nat_le_true}

-- why there is no answer, where there is none
abbrev pub first_error : {A E : Type 0} → Result A E → Option E
first_error (Ok x) = None
first_error (Err e) = Some e

error_behind : {A E : Type 0} (x : A) (r : Result (List A) E) → first_error (r >>= (λ xs. Ok (x ∷ xs))) ≡ first_error r
error_behind x (Ok xs) = refl
error_behind x (Err e) = refl

-- behind a good line
pub error_step : (ks : List Kind) (count latest n : ℕ) (line : List ℕ) (ls : List Line) (x : Tuple) → tuple_on_line ks count latest line ≡ Ok x
    → first_error (tuples_from ks count latest ((n, line) ∷ ls)) ≡ first_error (tuples_from ks (count + 1) x.time ls)
error_step ks count latest n line ls x e = rw e (error_behind x (tuples_from ks (count + 1) x.time ls))

-- at a bad line
bad_line : (ks : List Kind) (count latest n : ℕ) (line : List ℕ) (ls : List Line) (w : Why) → tuple_on_line ks count latest line ≡ Err w
    → tuples_from ks count latest ((n, line) ∷ ls) ≡ Err (n, w)
bad_line ks count latest n line ls w e = rw e

pub empty_or : (n : ℕ) → (n ≡ 0) ⊎ (0 < n)
empty_or zero = inl refl
empty_or (suc n) = inr (omega arith)

not_empty : (n : ℕ) → 0 < n → (n == 0) ≡ false
not_empty n some = grind (arith, nat_tests)

left_empty : (ks : List Kind) (latest : ℕ) (piece : List ℕ) (pieces : List (List ℕ)) → length (strip_carriage_return piece) ≡ 0
    → tuples_left ks latest (piece ∷ pieces) ≡ tuples_left ks latest pieces
left_empty ks latest piece pieces none = rw none

left_text : (ks : List Kind) (latest : ℕ) (piece : List ℕ) (pieces : List (List ℕ)) → 0 < length (strip_carriage_return piece)
    → tuples_left ks latest (piece ∷ pieces) ≡ and_then (tuple_of_line ks latest (strip_carriage_return piece)) (λ x. tuples_left ks x.time pieces)
left_text ks latest piece pieces some = rw (not_empty (length (strip_carriage_return piece)) some) refl

left_good : (ks : List Kind) (latest : ℕ) (piece : List ℕ) (pieces : List (List ℕ)) (x : Tuple) → 0 < length (strip_carriage_return piece)
    → tuple_of_line ks latest (strip_carriage_return piece) ≡ Ok x → tuples_left ks latest (piece ∷ pieces) ≡ x ∷ tuples_left ks x.time pieces
left_good ks latest piece pieces x some read = left_text ks latest piece pieces some ∙ ap (λ r. and_then r (λ x. tuples_left ks x.time pieces)) read

-- the rule on the count is another one
pub uncounted : (b : Bool) (r : Result Tuple Why) (x : Tuple) → (unless b why.TooMany >>= (λ _few. r)) ≡ Ok x → r ≡ Ok x
uncounted true r x h = cc
uncounted false r x h = h

pub not_none : {A : Type 0} (x : A) → Some x ≡ None → ⊥
not_none x h = cc

good_line : (ks : List Kind) (piece : List ℕ) (pieces : List (List ℕ)) (n count latest : ℕ) → 0 < length (strip_carriage_return piece)
    → ((x : Tuple) → first_error (tuples_from ks (count + 1) x.time (lines_from (n + 1) pieces)) ≡ None → tuples_from ks (count + 1) x.time (lines_from (n + 1) pieces) ≡ Ok (tuples_left ks x.time pieces))
    → (r : Result Tuple Why) → tuple_on_line ks count latest (strip_carriage_return piece) ≡ r
    → first_error (tuples_from ks count latest (lines_from n (piece ∷ pieces))) ≡ None
    → tuples_from ks count latest (lines_from n (piece ∷ pieces)) ≡ Ok (tuples_left ks latest (piece ∷ pieces))
good_line ks piece pieces n count latest some behind (Ok x) read h =
    let line = strip_carriage_return piece in
    let text = text_line n piece pieces some in
    let rest = behind x (sym (error_step ks count latest n line (lines_from (n + 1) pieces) x read) ∙ rw text at h) in
    let alone : tuple_of_line ks latest line ≡ Ok x = uncounted _ (tuple_of_line ks latest line) x read in
    rw (text, left_good ks latest piece pieces x some alone, read, rest)
good_line ks piece pieces n count latest some behind (Err w) read h =
    let text = text_line n piece pieces some in
    let found = ap first_error (bad_line ks count latest n (strip_carriage_return piece) (lines_from (n + 1) pieces) w read) in
    absurd (not_none (n, w) (sym found ∙ rw text at h))

-- where no line is bad, the tuples are those that are left at the start
pub good_stream : (ks : List Kind) (pieces : List (List ℕ)) (n count latest : ℕ) → first_error (tuples_from ks count latest (lines_from n pieces)) ≡ None
    → tuples_from ks count latest (lines_from n pieces) ≡ Ok (tuples_left ks latest pieces)
good_stream ks [] n count latest h = refl
good_stream ks (piece ∷ pieces) n count latest h = elim (empty_or (length (strip_carriage_return piece))) [
  | inl none ↦ rw (empty_line n piece pieces none, left_empty ks latest piece pieces none) (good_stream ks pieces (n + 1) count latest (rw (empty_line n piece pieces none) at h))
  | inr some ↦ good_line ks piece pieces n count latest some (λ x. good_stream ks pieces (n + 1) (count + 1) x.time) (tuple_on_line ks count latest (strip_carriage_return piece)) refl h
]

pub pieces_here : (text : List ℕ) (at : ℕ) → at ≤ length text → pieces_at text at ≡ pieces_of (drop at text)
pieces_here text at within = let inside : nat_le at (length text) ≡ true = nat_le_true at (length text) within in rw inside refl

pub pieces_past : (text : List ℕ) (at : ℕ) → length text < at → pieces_at text at ≡ []
pieces_past text at past = let outside : nat_le at (length text) ≡ false = grind (arith, nat_tests) in rw outside refl

-- what stands behind a line feed
behind_piece : (text piece more : List ℕ) (at : ℕ) → drop at text ≡ piece ++ 10 ∷ more → drop (at + length piece + 1) text ≡ more
behind_piece text piece more at is =
    let e : at + length piece + 1 ≡ at + (length piece + 1) = omega arith in
    rw e (sym (drop-drop (length piece + 1) at text) ∙ rw is (drop-append-add piece (10 ∷ more) 1))

-- a piece with a line feed behind it
pub piece_cut : (text piece more : List ℕ) (at : ℕ) → at ≤ length text → pieces_of (take (length text - at) (drop at text)) ≡ piece ∷ pieces_of more
    → take (length text - at) (drop at text) ≡ piece ++ 10 ∷ more → pieces_at text at ≡ piece ∷ pieces_at text (at + length piece + 1)
piece_cut text piece more at within parts first =
    let is : drop at text ≡ piece ++ 10 ∷ more = rw (take_rest text at) at first in
    let cut : pieces_of (drop at text) ≡ piece ∷ pieces_of more = rw (take_rest text at) at parts in
    let inside : at + length piece + 1 ≤ length text = omega (arith, length-drop at text, length-append piece (10 ∷ more), ap length is) in
    let next : pieces_at text (at + length piece + 1) ≡ pieces_of more = pieces_here text (at + length piece + 1) inside ∙ ap pieces_of (behind_piece text piece more at is) in
    pieces_here text at within ∙ cut ∙ ap (λ ps. piece ∷ ps) (sym next)

-- the last piece
pub piece_last : (text : List ℕ) (at : ℕ) → at ≤ length text → pieces_of (take (length text - at) (drop at text)) ≡ take (length text - at) (drop at text) ∷ []
    → pieces_at text at ≡ take (length text - at) (drop at text) ∷ pieces_at text (length text + 1)
piece_last text at within parts =
    let rest = take (length text - at) (drop at text) in
    let none : pieces_at text (length text + 1) ≡ [] = pieces_past text (length text + 1) (omega arith) in
    pieces_here text at within ∙ sym (ap pieces_of (take_rest text at)) ∙ parts ∙ ap (λ ps. rest ∷ ps) (sym none)

-- the pieces behind a first one
abbrev pieces_behind : Option (List ℕ) → List (List ℕ)
pieces_behind None = []
pieces_behind (Some text) = pieces_of text

pieces_first : (text : List ℕ) → pieces_of text ≡ first_line text ∷ pieces_behind (behind_line text)
pieces_first [] = refl
pieces_first (b ∷ bs) = elim (cases_Bool (b == 10)) [
  | inl feed ↦ rw feed refl
  | inr other ↦ rw (other, pieces_first bs) refl
]

behind_feed : (b : ℕ) (bs : List ℕ) → ends_line (b ∷ bs) ≡ true → behind_line (b ∷ bs) ≡ Some bs
behind_feed b bs feed = rw feed refl

-- behind a line's end
behind_end : (text : List ℕ) (end : ℕ) → ends_line (drop end text) ≡ true → pieces_behind (behind_line (drop end text)) ≡ pieces_at text (end + 1)
behind_end text end ends = elim (cases_lt end (length text)) [
  | inl within ↦
      let here = drop_more text end 0 within in
      ap pieces_behind (ap behind_line here ∙ behind_feed (get_or text end 0) (drop (end + 1) text) (sym (ap ends_line here) ∙ ends)) ∙ sym (pieces_here text (end + 1) (omega arith))
  | inr past ↦ ap (λ t. pieces_behind (behind_line t)) (drop_all end text past) ∙ sym (pieces_past text (end + 1) (omega arith))
]

-- the line from one place to another, where the same stands behind the first lines of what is left at both
pub line_there : (text : List ℕ) (from end : ℕ) → from ≤ length text → end ≤ length text → behind_line (drop from text) ≡ behind_line (drop end text) → ends_line (drop end text) ≡ true
    → pieces_at text from ≡ first_line (drop from text) ∷ pieces_at text (end + 1)
line_there text from end within inside lines ends =
    pieces_here text from within ∙ pieces_first (drop from text) ∙ ap (λ ps. first_line (drop from text) ∷ ps) (ap pieces_behind lines ∙ behind_end text end ends)

-- the lines from a piece on, where it has text and where it has none
pub line_next : (text piece line : List ℕ) (from next : ℕ) → pieces_at text from ≡ piece ∷ pieces_at text next → strip_carriage_return piece ≡ line → 0 < length line
    → (n : ℕ) → lines_from n (pieces_at text from) ≡ (n, line) ∷ lines_from (n + 1) (pieces_at text next)
line_next text piece line from next pieces same some n =
    let behind = pieces_at text next in
    let longer : 0 < length (strip_carriage_return piece) = subst (λ l. 0 < length l) (sym same) some in
    ap (λ ps. lines_from n ps) pieces ∙ subst (λ l. lines_from n (piece ∷ behind) ≡ (n, l) ∷ lines_from (n + 1) behind) same (text_line n piece behind longer)

pub line_none : (text piece line : List ℕ) (from next : ℕ) → pieces_at text from ≡ piece ∷ pieces_at text next → strip_carriage_return piece ≡ line → length line ≡ 0
    → (n : ℕ) → lines_from n (pieces_at text from) ≡ lines_from (n + 1) (pieces_at text next)
line_none text piece line from next pieces same none n =
    ap (λ ps. lines_from n ps) pieces ∙ empty_line n piece (pieces_at text next) (ap length same ∙ none)

-- a line that is read at once
pub line_tested : (ks : List Kind) (count latest : ℕ) (text : List ℕ) (from : ℕ) (x : Tuple) (end : ℕ) → count < 1000000 → ReadsLine ks latest text from x end
    → IsTested ks count latest text from (Some x.time) (end + 1)
line_tested ks count latest text from x end few read =
    let below : nat_le 1000000 count ≡ false = grind (arith, nat_tests) in
    (read.line, line_next text read.line read.line from (end + 1) read.pieces read.whole read.some, (x, rw below read.tuple, refl))

pub line_recorded : (ks : List Kind) (latest : ℕ) (text : List ℕ) (from : ℕ) (x : Tuple) (end : ℕ) → ReadsLine ks latest text from x end
    → tuples_recorded ks latest text from ≡ x ∷ tuples_recorded ks x.time text (end + 1)
line_recorded ks latest text from x end read =
    let some : 0 < length (strip_carriage_return read.line) = subst (λ l. 0 < length l) (sym read.whole) read.some in
    let tuple : tuple_of_line ks latest (strip_carriage_return read.line) ≡ Ok x = subst (λ l. tuple_of_line ks latest l ≡ Ok x) (sym read.whole) read.tuple in
    ap (λ ps. tuples_left ks latest ps) read.pieces ∙ left_good ks latest read.line (pieces_at text (end + 1)) x some tuple

-- a text that is one piece
no_more_pieces : (o : Option (List ℕ)) → pieces_behind o ≡ [] → o ≡ None
no_more_pieces None h = refl
no_more_pieces (Some text) h = let first = sym (pieces_first text) ∙ h in cc

first_alone : (text : List ℕ) → behind_line text ≡ None → first_line text ≡ text
first_alone [] h = refl
first_alone (b ∷ bs) h = elim (cases_Bool (b == 10)) [
  | inl feed ↦ let none = rw feed at h in cc
  | inr other ↦ rw (other, first_alone bs (rw other at h)) refl
]

piece_alone : (text piece : List ℕ) → pieces_of text ≡ piece ∷ [] → piece ≡ text
piece_alone text piece h =
    let is : first_line text ∷ pieces_behind (behind_line text) ≡ piece ∷ [] = sym (pieces_first text) ∙ h in
    let first : first_line text ≡ piece = cc in
    let more : pieces_behind (behind_line text) ≡ [] = cc in
    sym first ∙ first_alone text (no_more_pieces (behind_line text) more)

-- a line that is read at once where it stands alone
pub line_alone : (ks : List Kind) (count latest : ℕ) (line : List ℕ) (x : Tuple) (end : ℕ) → count < 1000000 → end ≡ length line → ReadsLine ks latest line 0 x end
    → tuple_on_line ks count latest line ≡ Ok x
line_alone ks count latest line x end few whole read =
    let below : nat_le 1000000 count ≡ false = grind (arith, nat_tests) in
    let none : pieces_at line (end + 1) ≡ [] = pieces_past line (end + 1) (omega (arith, whole)) in
    let one : pieces_of line ≡ read.line ∷ [] = sym (pieces_here line 0 (omega arith)) ∙ read.pieces ∙ ap (λ ps. read.line ∷ ps) none in
    rw below (subst (λ l. tuple_of_line ks latest l ≡ Ok x) (piece_alone line read.line one) read.tuple)

-- the tuples from a piece on
pub recorded_next : (text piece line : List ℕ) (from next : ℕ) → pieces_at text from ≡ piece ∷ pieces_at text next → strip_carriage_return piece ≡ line → 0 < length line
    → (ks : List Kind) (latest : ℕ) → tuples_recorded ks latest text from ≡ and_then (tuple_of_line ks latest line) (λ x. tuples_recorded ks x.time text next)
recorded_next text piece line from next pieces same some ks latest =
    let behind = pieces_at text next in
    let longer : 0 < length (strip_carriage_return piece) = subst (λ l. 0 < length l) (sym same) some in
    ap (λ ps. tuples_left ks latest ps) pieces
    ∙ subst (λ l. tuples_left ks latest (piece ∷ behind) ≡ and_then (tuple_of_line ks latest l) (λ x. tuples_left ks x.time behind)) same (left_text ks latest piece behind longer)

pub recorded_none : (text piece line : List ℕ) (from next : ℕ) → pieces_at text from ≡ piece ∷ pieces_at text next → strip_carriage_return piece ≡ line → length line ≡ 0
    → (ks : List Kind) (latest : ℕ) → tuples_recorded ks latest text from ≡ tuples_recorded ks latest text next
recorded_none text piece line from next pieces same none ks latest =
    ap (λ ps. tuples_left ks latest ps) pieces ∙ left_empty ks latest piece (pieces_at text next) (ap length same ∙ none)

pub recorded_past : (ks : List Kind) (latest : ℕ) (text : List ℕ) (at : ℕ) → length text < at → tuples_recorded ks latest text at ≡ []
recorded_past ks latest text at past = ap (λ ps. tuples_left ks latest ps) (pieces_past text at past)

pub pieces_start : (text : List ℕ) → pieces_at text 0 ≡ pieces_of text
pieces_start text = pieces_here text 0 (omega arith)

pub unmarked_shorter : (bytes : List ℕ) → length (without_mark bytes) ≤ length bytes
unmarked_shorter [] = omega arith
unmarked_shorter (a ∷ []) = omega arith
unmarked_shorter (a ∷ b ∷ []) = omega arith
unmarked_shorter (a ∷ b ∷ c ∷ rest) = by (is_mark a b c)
  where
    by : (marked : Bool) → length (if marked then rest else a ∷ b ∷ c ∷ rest) ≤ length (a ∷ b ∷ c ∷ rest)
    by true = omega arith
    by false = omega arith
