-- What comes in pieces is told as a stream file is read.
use Rattle.std.proofs.Common.{◌≡◌, ◌≢◌, ◌⊎◌, refl, sym, ap, subst, ◌∙◌, ℕ, ◌+◌, ◌<◌, ◌==◌, Bool, true, false, arith, inl, inr}
use Rattle.std.proofs.Common.{List, [], ◌∷◌, ◌++◌, length, Ok, Err, None, Some, append_assoc}
use Rattle.std.specs.Prelude.{Result, if◌then◌else◌}
use Rattle.std.specs.Str.Lines.{strip_carriage_return}
use Rattle.std.proofs.lemmas.Bool.{cases_Bool}
use Rattle.std.proofs.lemmas.Bool.Decides.{nat_tests}
use Rattle.sq_value.specs.declared.Kind.{Kind}
use Rattle.sq_value.specs.declared.Tuple.{Tuple}
use Rattle.sq_value.specs.Values.{kinds_of}
use Rattle.sq_csv.specs.Records.{is_mark}
use Rattle.sq_replay.specs.declared.why.Why.{Why}
use Rattle.sq_replay.specs.declared.why.Why.TheVariants as why
use Rattle.sq_replay.specs.FileLines.{lines_from, pieces_of, without_mark}
use Rattle.sq_intake.specs.Incoming.{bare_line, brings, to_be_told, punctuation_in, told, told_from, told_behind}
use Rattle.sq_intake.specs.IncomingLaws.{LacksPunctuation, ToldAsStreams}
use Rattle.sq_replay.specs.Streams.{at_line, tuple_of_line, tuple_on_line, tuples_from, unless}
use Rattle.sq_replay.proofs.FitLemmas.{tuples_chain}
use Rattle.sq_replay.proofs.RecordedLemmas.{empty_or, uncounted}
use Rattle.sq_intake.proofs.IncomingLemmas.{brings_bad, brings_none, brings_tuple, told_bad, told_step}
use Rattle.sq_intake.proofs.IntakeLemmas.{end_fed, has_one, told_end}
use Rattle.sq_replay.proofs.StreamLemmas.{empty_line, text_line}
use Rattle.sq_words.specs.Results.{◌>>=◌}
use Rattle.sq_words.proofs.Bools.{and_true}

uncounted_bad : (b : Bool) (r : Result Tuple Why) (w : Why) → w ≢ why.TooMany → (unless b why.TooMany >>= (λ _few. r)) ≡ Err w → r ≡ Err w
uncounted_bad true r w other h = let is : w ≡ why.TooMany = cc in absurd (other is)
uncounted_bad false r w other h = h

bind_bad : (x : Tuple) (r : Result (List Tuple) (ℕ × Why)) (e : ℕ × Why) → (r >>= (λ ys. Ok (x ∷ ys))) ≡ Err e → r ≡ Err e
bind_bad x (Ok ys) e h = cc
bind_bad x (Err f) e h = h

abbrev line_in : Result (List Tuple) (ℕ × Why) → ℕ
line_in (Ok xs) = 0
line_in (Err e) = e.0

abbrev why_in : Result (List Tuple) (ℕ × Why) → Why
why_in (Ok xs) = why.TooMany
why_in (Err e) = e.1

bad_chain : (n : ℕ) (r : Result Tuple Why) (more : Tuple → Result (List Tuple) (ℕ × Why)) (m : ℕ) (w : Why) → (at_line n r >>= (λ x. more x >>= (λ ys. Ok (x ∷ ys)))) ≡ Err (m, w)
    → ((n ≡ m) × (r ≡ Err w)) ⊎ ((x : Tuple) × (r ≡ Ok x) × (more x ≡ Err (m, w)))
bad_chain n (Err e) more m w h = inl (ap line_in h, ap (λ (v : Why). Err v) (ap why_in h))
bad_chain n (Ok x) more m w h = inr (x, refl, bind_bad x (more x) (m, w) h)

-- a line, and those behind it
good_first : (ks : List Kind) (n count latest : ℕ) (piece cut : List ℕ) (pieces : List (List ℕ)) (xs : List Tuple) → bare_line n piece ≡ strip_carriage_return cut
    → ((count latest : ℕ) (ys : List Tuple) → tuples_from ks count latest (lines_from (n + 1) pieces) ≡ Ok ys → told_from ks latest (n + 1) pieces ≡ told ys None)
    → tuples_from ks count latest (lines_from n (cut ∷ pieces)) ≡ Ok xs → told_from ks latest n (piece ∷ pieces) ≡ told xs None
good_first ks n count latest piece cut pieces xs bare behind h = elim (empty_or (length (strip_carriage_return cut))) [
  | inl none ↦
      told_step ks latest n latest piece pieces None (ap (brings ks latest) bare ∙ brings_none ks latest (strip_carriage_return cut) none)
      ∙ ap (told_behind []) (behind count latest xs (sym (ap (tuples_from ks count latest) (empty_line n cut pieces none)) ∙ h))
  | inr some ↦
      let c = tuples_chain n (tuple_on_line ks count latest (strip_carriage_return cut)) (λ x. tuples_from ks (count + 1) x.time (lines_from (n + 1) pieces)) xs
      (sym (ap (tuples_from ks count latest) (text_line n cut pieces some)) ∙ h) in
      let alone : tuple_of_line ks latest (strip_carriage_return cut) ≡ Ok c.0 = uncounted _ (tuple_of_line ks latest (strip_carriage_return cut)) c.0 c.2 in
      told_step ks latest n c.0.time piece pieces (Some c.0) (ap (brings ks latest) bare ∙ brings_tuple ks latest (strip_carriage_return cut) c.0 some alone)
      ∙ ap (told_behind (c.0 ∷ [])) (behind (count + 1) c.0.time c.1 c.3) ∙ ap (λ ys. told ys None) c.4
]

bad_first : (ks : List Kind) (n count latest : ℕ) (piece cut : List ℕ) (pieces : List (List ℕ)) (m : ℕ) (w : Why) → bare_line n piece ≡ strip_carriage_return cut → punctuation_in (bare_line n piece) ≡ None
    → w ≢ why.TooMany → ((count latest : ℕ) → tuples_from ks count latest (lines_from (n + 1) pieces) ≡ Err (m, w) → (told_from ks latest (n + 1) pieces).bad ≡ Some (m, w))
    → tuples_from ks count latest (lines_from n (cut ∷ pieces)) ≡ Err (m, w) → (told_from ks latest n (piece ∷ pieces)).bad ≡ Some (m, w)
bad_first ks n count latest piece cut pieces m w bare plain other behind h = elim (empty_or (length (strip_carriage_return cut))) [
  | inl none ↦
      ap (λ t. t.bad) (told_step ks latest n latest piece pieces None (ap (brings ks latest) bare ∙ brings_none ks latest (strip_carriage_return cut) none))
      ∙ behind count latest (sym (ap (tuples_from ks count latest) (empty_line n cut pieces none)) ∙ h)
  | inr some ↦
      elim (
      bad_chain n (tuple_on_line ks count latest (strip_carriage_return cut)) (λ x. tuples_from ks (count + 1) x.time (lines_from (n + 1) pieces)) m w
      (sym (ap (tuples_from ks count latest) (text_line n cut pieces some)) ∙ h)
      ) [
        | inl here ↦
            let alone : tuple_of_line ks latest (strip_carriage_return cut) ≡ Err w = uncounted_bad _ (tuple_of_line ks latest (strip_carriage_return cut)) w other here.1 in
            ap (λ t. t.bad) (told_bad ks latest n piece pieces w (ap (brings ks latest) bare ∙ brings_bad ks latest (strip_carriage_return cut) w some alone (sym (ap punctuation_in bare) ∙ plain)))
            ∙ ap (λ k. Some (k, w)) here.0
        | inr later ↦
            let alone : tuple_of_line ks latest (strip_carriage_return cut) ≡ Ok later.0 = uncounted _ (tuple_of_line ks latest (strip_carriage_return cut)) later.0 later.1 in
            ap (λ t. t.bad) (told_step ks latest n later.0.time piece pieces (Some later.0) (ap (brings ks latest) bare ∙ brings_tuple ks latest (strip_carriage_return cut) later.0 some alone))
            ∙ behind (count + 1) later.0.time later.2
      ]
]

bare_later : (n : ℕ) (piece : List ℕ) → 1 < n → bare_line n piece ≡ strip_carriage_return piece
bare_later n piece later =
    let not_first : (n == 1) ≡ false = grind (arith, nat_tests) in
    ap (λ (b : Bool). strip_carriage_return (if b then without_mark piece else piece)) not_first

good_from : (ks : List Kind) (pieces : List (List ℕ)) (n count latest : ℕ) (xs : List Tuple) → 1 < n → tuples_from ks count latest (lines_from n pieces) ≡ Ok xs → told_from ks latest n pieces ≡ told xs None
good_from ks [] n count latest xs later h = let none : [] ≡ xs = cc in ap (λ ys. told ys None) none
good_from ks (piece ∷ pieces) n count latest xs later h =
    good_first ks n count latest piece piece pieces xs (bare_later n piece later) (λ count latest ys. good_from ks pieces (n + 1) count latest ys (omega arith)) h

bad_from : (ks : List Kind) (pieces : List (List ℕ)) (n count latest m : ℕ) (w : Why) → 1 < n → LacksPunctuation n pieces → w ≢ why.TooMany → tuples_from ks count latest (lines_from n pieces) ≡ Err (m, w)
    → (told_from ks latest n pieces).bad ≡ Some (m, w)
bad_from ks [] n count latest m w later plain other h = cc
bad_from ks (piece ∷ pieces) n count latest m w later plain other h =
    bad_first ks n count latest piece piece pieces m w (bare_later n piece later) plain.0 other (λ count latest. bad_from ks pieces (n + 1) count latest m w (omega arith) plain.1 other) h

-- the first without a mark
abbrev first_unmarked : List (List ℕ) → List (List ℕ)
first_unmarked [] = []
first_unmarked (piece ∷ pieces) = without_mark piece ∷ pieces

no_feed : (a d : ℕ) → (a == d) ≡ true → (d == 10) ≡ false → (a == 10) ≡ false
no_feed a d is other = grind (arith, nat_tests)

unmark : (a b c : ℕ) (rest : List ℕ) → is_mark a b c ≡ true → pieces_of rest ≡ first_unmarked (pieces_of (a ∷ b ∷ c ∷ rest))
unmark a b c rest mark =
    let two = and_true _ _ mark in
    let first = and_true _ _ two.0 in
    let one = has_one rest in
    let x : (a == 10) ≡ false = no_feed a 0xEF first.0 refl in
    let y : (b == 10) ≡ false = no_feed b 0xBB first.1 refl in
    let z : (c == 10) ≡ false = no_feed c 0xBF two.1 refl in
    rw (x, y, z, one.2, mark) refl

plain_mark : (a b c : ℕ) (rest : List ℕ) → is_mark a b c ≡ false → pieces_of (a ∷ b ∷ c ∷ rest) ≡ first_unmarked (pieces_of (a ∷ b ∷ c ∷ rest))
plain_mark a b c rest plain =
    let one = has_one rest in
    elim (cases_Bool (a == 10)) [
      | inl x ↦ rw x refl
      | inr x ↦ elim (cases_Bool (b == 10)) [
        | inl y ↦ rw (x, y) refl
        | inr y ↦ elim (cases_Bool (c == 10)) [ inl z ↦ rw (x, y, z) refl | inr z ↦ rw (x, y, z, one.2, plain) refl ]
      ]
    ]

unmarked_pieces : (bytes : List ℕ) → pieces_of (without_mark bytes) ≡ first_unmarked (pieces_of bytes)
unmarked_pieces [] = refl
unmarked_pieces (a ∷ []) = elim (cases_Bool (a == 10)) [ inl x ↦ rw x refl | inr x ↦ rw x refl ]
unmarked_pieces (a ∷ b ∷ []) = elim (cases_Bool (a == 10)) [
  | inl x ↦ elim (cases_Bool (b == 10)) [ inl y ↦ rw (x, y) refl | inr y ↦ rw (x, y) refl ]
  | inr x ↦ elim (cases_Bool (b == 10)) [ inl y ↦ rw (x, y) refl | inr y ↦ rw (x, y) refl ]
]
unmarked_pieces (a ∷ b ∷ c ∷ rest) = elim (cases_Bool (is_mark a b c)) [
  | inl mark ↦ ap (λ (m : Bool). pieces_of (if m then rest else a ∷ b ∷ c ∷ rest)) mark ∙ unmark a b c rest mark
  | inr plain ↦ ap (λ (m : Bool). pieces_of (if m then rest else a ∷ b ∷ c ∷ rest)) plain ∙ plain_mark a b c rest plain
]

pub told_as_streams : ToldAsStreams
told_as_streams = record {
  good = λ cs bytes xs h.
      let ks = kinds_of cs in
      let one = has_one bytes in
      let cut : pieces_of (without_mark bytes) ≡ without_mark one.0 ∷ one.1 = unmarked_pieces bytes ∙ ap first_unmarked one.2 in
      ap (told_from ks 0 1) one.2
      ∙ good_first ks 1 0 0 one.0 (without_mark one.0) one.1 xs refl (λ count latest ys. good_from ks one.1 2 count latest ys (omega arith)) (sym (ap (λ ps. tuples_from ks 0 0 (lines_from 1 ps)) cut) ∙ h);
  bad = λ cs bytes n w lacks other h.
      let ks = kinds_of cs in
      let one = has_one bytes in
      let plain : LacksPunctuation 1 (one.0 ∷ one.1) = subst (LacksPunctuation 1) one.2 lacks in
      let cut : pieces_of (without_mark bytes) ≡ without_mark one.0 ∷ one.1 = unmarked_pieces bytes ∙ ap first_unmarked one.2 in
      ap (λ ps. (told_from ks 0 1 ps).bad) one.2
      ∙ bad_first ks 1 0 0 one.0 (without_mark one.0) one.1 n w refl plain.0 other (λ count latest. bad_from ks one.1 2 count latest n w (omega arith) plain.1 other)
      (sym (ap (λ ps. tuples_from ks 0 0 (lines_from 1 ps)) cut) ∙ h);
  begins = λ cs bytes. refl;
  given = λ s piece known rest. ap (λ t. told_behind known (told_from s.kinds s.latest (s.passed + 1) (pieces_of t))) (sym (append_assoc s.text piece rest));
  ended = λ s. sym (end_fed s.kinds s.latest (s.passed + 1) s.text);
  over = λ s none. ap (λ t. told_from s.kinds s.latest (s.passed + 1) (pieces_of (t ++ []))) none ∙ told_end s.kinds s.latest (s.passed + 1) [];
  cuts = λ a b c p q known more now first second rest. ap (λ t. told_behind known (to_be_told a t)) (append_assoc p q rest) ∙ first (q ++ rest) ∙ second rest;
}
