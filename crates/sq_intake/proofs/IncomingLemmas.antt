-- What whole lines come to, whatever comes behind them.
use Rattle.std.proofs.Common.{zero, suc, ◌≡◌, refl, sym, ap, subst, ◌∙◌, ℕ, ◌+◌, ◌<◌, ◌≤◌, ◌==◌, Bool, true, false, arith, inl, inr}
use Rattle.std.proofs.Common.{List, [], ◌∷◌, ◌++◌, length, drop, get_or, Ok, Err, None, Some, append_assoc}
use Rattle.std.specs.Prelude.{Option, if◌then◌else◌}
use Rattle.std.specs.List.{cons_option}
use Rattle.std.specs.Str.Lines.{strip_carriage_return}
use Rattle.std.proofs.lemmas.Bool.{cases_Bool, cases_lt}
use Rattle.std.proofs.lemmas.Bool.Decides.{nat_tests}
use Rattle.std.proofs.lemmas.List.{append-nil, drop_more}
use Rattle.sq_value.specs.declared.Kind.{Kind}
use Rattle.sq_value.specs.declared.Tuple.{Tuple}
use Rattle.sq_words.specs.Lists.{IsPrefixOf}
use Rattle.sq_replay.specs.declared.why.Why.{Why}
use Rattle.sq_lines.specs.Classes.{all_but_last}
use Rattle.sq_replay.specs.FileLines.{pieces_at, pieces_of, without_mark}
use Rattle.sq_replay.specs.Cuts.{ReadsLine}
use Rattle.sq_intake.specs.Incoming.{Halts, MovesBy, NoneAfter, Told, and_told, bare_line, brings, brought_by, incoming, punctuation_in, told, told_from, told_behind}
use Rattle.sq_intake.specs.Intakes.{AreWhole}
use Rattle.sq_replay.specs.Streams.{tuple_of_line}
use Rattle.sq_replay.proofs.RecordedLemmas.{pieces_here, pieces_past}
use Rattle.sq_intake.proofs.ComeLemmas.{IsLater, brings_later}

front_front : (a b : List Tuple) (t : Told) → told_behind a (told_behind b t) ≡ told_behind (a ++ b) t
front_front a b t = ap (λ xs. told xs t.bad) (sym (append_assoc a b t.tuples))

-- a text that ends in a line feed has two pieces at least
abbrev HasTwo : List (List ℕ) → Type 0
HasTwo ps = (p : List ℕ) × (q : List ℕ) × (qs : List (List ℕ)) × (ps ≡ p ∷ q ∷ qs)

two_after : (b : ℕ) (bs : List ℕ) → HasTwo (pieces_of bs) → HasTwo (pieces_of (b ∷ bs))
two_after b bs two = elim (cases_Bool (b == 10)) [
  | inl feed ↦ ([], two.0, two.1 ∷ two.2, rw (feed, two.3) refl)
  | inr other ↦ (b ∷ two.0, two.1, two.2, rw (other, two.3) refl)
]

two_pieces : (b : ℕ) (bs : List ℕ) → AreWhole (b ∷ bs) → HasTwo (pieces_of (b ∷ bs))
two_pieces b [] whole = ([], [], [], rw whole refl)
two_pieces b (c ∷ bs) whole = two_after b (c ∷ bs) (two_pieces c bs whole)

whole_feed : (b : ℕ) (bs rest : List ℕ) → (b == 10) ≡ true → HasTwo (pieces_of bs) → pieces_of (bs ++ rest) ≡ all_but_last (pieces_of bs) ++ pieces_of rest
    → pieces_of ((b ∷ bs) ++ rest) ≡ all_but_last (pieces_of (b ∷ bs)) ++ pieces_of rest
whole_feed b bs rest feed two so_far = rw (feed, two.3) (ap (λ ps. [] ∷ ps) (so_far ∙ ap (λ ps. all_but_last ps ++ pieces_of rest) two.3))

whole_other : (b : ℕ) (bs rest : List ℕ) → (b == 10) ≡ false → HasTwo (pieces_of bs) → pieces_of (bs ++ rest) ≡ all_but_last (pieces_of bs) ++ pieces_of rest
    → pieces_of ((b ∷ bs) ++ rest) ≡ all_but_last (pieces_of (b ∷ bs)) ++ pieces_of rest
whole_other b bs rest other two so_far =
    let here : pieces_of (bs ++ rest) ≡ two.0 ∷ (all_but_last (two.1 ∷ two.2) ++ pieces_of rest) = so_far ∙ ap (λ ps. all_but_last ps ++ pieces_of rest) two.3 in
    rw (other, here, two.3) refl

-- the pieces of whole lines and then of what comes behind them
pub whole_pieces : (text rest : List ℕ) → AreWhole text → pieces_of (text ++ rest) ≡ all_but_last (pieces_of text) ++ pieces_of rest
whole_pieces [] rest whole = refl
whole_pieces (b ∷ []) rest whole = rw whole refl
whole_pieces (b ∷ c ∷ bs) rest whole =
    let two = two_pieces c bs whole in
    let so_far = whole_pieces (c ∷ bs) rest whole in
    elim (cases_Bool (b == 10)) [ inl feed ↦ whole_feed b (c ∷ bs) rest feed two so_far | inr other ↦ whole_other b (c ∷ bs) rest other two so_far ]

whole_rest : (b : ℕ) (bs : List ℕ) → AreWhole (b ∷ bs) → AreWhole bs
whole_rest b [] whole = tt
whole_rest b (c ∷ bs) whole = whole

pub whole_drop : (n : ℕ) (text : List ℕ) → AreWhole text → AreWhole (drop n text)
whole_drop zero text whole = whole
whole_drop (suc n) [] whole = tt
whole_drop (suc n) (b ∷ bs) whole = whole_drop n bs (whole_rest b bs whole)

-- a line from one place of whole lines to another, whatever comes behind them
pub record Steps (text piece : List ℕ) (from next : ℕ) : Type 0 where
  pub within : next ≤ length text
  pub on : (rest : List ℕ) → pieces_of (drop from text ++ rest) ≡ piece ∷ pieces_of (drop next text ++ rest)

steps_within : (text piece : List ℕ) (next : ℕ) (q : List ℕ) (qs : List (List ℕ)) → pieces_at text next ≡ q ∷ qs → next ≤ length text
steps_within text piece next q qs some = elim (cases_lt (length text) next) [
  | inl past ↦ let none = sym (pieces_past text next past) ∙ some in cc
  | inr within ↦ omega arith
]

pub line_steps : (text piece : List ℕ) (from next : ℕ) → AreWhole text → from < length text → pieces_at text from ≡ piece ∷ pieces_at text next → Steps text piece from next
line_steps text piece from next whole inside pieces =
    let left = drop from text in
    let here : left ≡ get_or text from 0 ∷ drop (from + 1) text = drop_more text from 0 inside in
    let whole_left : AreWhole left = whole_drop from text whole in
    let two = two_pieces (get_or text from 0) (drop (from + 1) text) (subst AreWhole here whole_left) in
    let cut : piece ∷ pieces_at text next ≡ two.0 ∷ two.1 ∷ two.2 = sym pieces ∙ pieces_here text from (omega arith) ∙ ap pieces_of here ∙ two.3 in
    let behind : pieces_at text next ≡ two.1 ∷ two.2 = cc in
    let within : next ≤ length text = steps_within text piece next two.1 two.2 behind in
    let later : pieces_of (drop next text) ≡ two.1 ∷ two.2 = sym (pieces_here text next within) ∙ behind in
    let now : pieces_of left ≡ piece ∷ two.1 ∷ two.2 = sym (pieces_here text from (omega arith)) ∙ pieces ∙ ap (λ ps. piece ∷ ps) behind in
    record {
      within = within;
      on = λ rest.
          whole_pieces left rest whole_left ∙ ap (λ ps. all_but_last ps ++ pieces_of rest) now
          ∙ ap (λ ps. piece ∷ (all_but_last ps ++ pieces_of rest)) (sym later) ∙ ap (λ ps. piece ∷ ps) (sym (whole_pieces (drop next text) rest (whole_drop next text whole)));
    }

-- what one line brings, and what comes behind it
pub told_step : (ks : List Kind) (latest n later : ℕ) (piece : List ℕ) (pieces : List (List ℕ)) (o : Option Tuple) → brings ks latest (bare_line n piece) ≡ Ok (o, later)
    → told_from ks latest n (piece ∷ pieces) ≡ told_behind (cons_option o []) (told_from ks later (n + 1) pieces)
told_step ks latest n later piece pieces o e = ap (λ r. and_told n r (λ later. told_from ks later (n + 1) pieces)) e

pub told_bad : (ks : List Kind) (latest n : ℕ) (piece : List ℕ) (pieces : List (List ℕ)) (why : Why) → brings ks latest (bare_line n piece) ≡ Err why
    → told_from ks latest n (piece ∷ pieces) ≡ told [] (Some (n, why))
told_bad ks latest n piece pieces why e = ap (λ r. and_told n r (λ later. told_from ks later (n + 1) pieces)) e

pub brings_tuple : (ks : List Kind) (latest : ℕ) (line : List ℕ) (x : Tuple) → 0 < length line → tuple_of_line ks latest line ≡ Ok x → brings ks latest line ≡ Ok (Some x, x.time)
brings_tuple ks latest [] x some e = absurd (omega arith)
brings_tuple ks latest (b ∷ bs) x some e = ap (brought_by latest (punctuation_in (b ∷ bs))) e

pub brings_bad : (ks : List Kind) (latest : ℕ) (line : List ℕ) (why : Why) → 0 < length line → tuple_of_line ks latest line ≡ Err why → punctuation_in line ≡ None
    → brings ks latest line ≡ Err why
brings_bad ks latest [] why some e mark = absurd (omega arith)
brings_bad ks latest (b ∷ bs) why some e mark = ap (brought_by latest (punctuation_in (b ∷ bs))) e ∙ ap (λ m. brought_by latest m (Err why)) mark

pub brings_none : (ks : List Kind) (latest : ℕ) (line : List ℕ) → length line ≡ 0 → brings ks latest line ≡ Ok (None, latest)
brings_none ks latest [] none = refl
brings_none ks latest (b ∷ bs) none = absurd (omega arith)

-- a line behind the first that is read at once
pub brings_at_once : (ks : List Kind) (latest passed : ℕ) (text : List ℕ) (from : ℕ) (x : Tuple) (end : ℕ) → 0 < passed → (read : ReadsLine ks latest text from x end)
    → brings ks latest (bare_line (passed + 1) read.line) ≡ Ok (Some x, x.time)
brings_at_once ks latest passed text from x end some read =
    let later : (passed + 1 == 1) ≡ false = grind (arith, nat_tests) in
    let bare : bare_line (passed + 1) read.line ≡ read.line =
    ap (λ (b : Bool). strip_carriage_return (if b then without_mark read.line else read.line)) later ∙ read.whole in
    ap (brings ks latest) bare ∙ brings_tuple ks latest read.line x read.some read.tuple

-- what was known and was to come is what is known and is to come behind a place of whole lines
abbrev pub HoldsTo : List Kind → ℕ → ℕ → List ℕ → ℕ → List Tuple → ℕ → ℕ → ℕ → List Tuple → Type 0
HoldsTo ks latest passed text from known later more at now = MovesBy (incoming ks latest passed (drop from text)) (incoming ks later more (drop at text)) [] known now

pub moved_on : (ks : List Kind) (latest passed : ℕ) (text : List ℕ) (from : ℕ) (known : List Tuple) (later more at : ℕ) (now : List Tuple) (piece : List ℕ) (next last count : ℕ) (o : Option Tuple) (after : List Tuple)
    → HoldsTo ks latest passed text from known later more at now → Steps text piece at next → brings ks later (bare_line (more + 1) piece) ≡ Ok (o, last) → count ≡ more + 1 → after ≡ now ++ cons_option o []
    → HoldsTo ks latest passed text from known last count next after
moved_on ks latest passed text from known later more at now piece next last count o after so_far step e counted is rest =
    let behind = told_from ks last (more + 1 + 1) (pieces_of (drop next text ++ rest)) in
    so_far rest ∙ ap (λ ps. told_behind now (told_from ks later (more + 1) ps)) (step.on rest)
    ∙ ap (told_behind now) (told_step ks later (more + 1) last piece (pieces_of (drop next text ++ rest)) o e) ∙ front_front now (cons_option o []) behind
    ∙ ap (λ xs. told_behind xs behind) (sym is) ∙ ap (λ n. told_behind after (told_from ks last (n + 1) (pieces_of (drop next text ++ rest)))) (sym counted)

pub moved_bad : (ks : List Kind) (latest passed : ℕ) (text : List ℕ) (from : ℕ) (known : List Tuple) (later more at : ℕ) (now : List Tuple) (piece : List ℕ) (next number : ℕ) (why : Why)
    → HoldsTo ks latest passed text from known later more at now → Steps text piece at next → brings ks later (bare_line (more + 1) piece) ≡ Err why → number ≡ more + 1
    → Halts (incoming ks latest passed (drop from text)) [] known now number why
moved_bad ks latest passed text from known later more at now piece next number why so_far step e counted rest =
    so_far rest ∙ ap (λ ps. told_behind now (told_from ks later (more + 1) ps)) (step.on rest)
    ∙ ap (told_behind now) (told_bad ks later (more + 1) piece (pieces_of (drop next text ++ rest)) why e) ∙ ap (λ xs. told xs (Some (more + 1, why))) (append-nil now)
    ∙ ap (λ n. told now (Some (n, why))) (sym counted)

none_later : (latest later : ℕ) (xs : List Tuple) → latest ≤ later → NoneAfter latest xs → NoneAfter later xs
none_later latest later [] before none = tt
none_later latest later (x ∷ xs) before none = let first = none.0 in (omega (arith, first), none_later latest later xs before none.1)

none_behind : (tick : ℕ) (xs : List Tuple) (x : Tuple) → NoneAfter tick xs → x.time ≤ tick → NoneAfter tick (xs ++ x ∷ [])
none_behind tick [] x none at = (at, tt)
none_behind tick (y ∷ ys) x none at = (none.0, none_behind tick ys x none.1 at)

none_brought : (latest later : ℕ) (o : Option Tuple) (xs : List Tuple) → IsLater latest o later → NoneAfter latest xs → NoneAfter later (xs ++ cons_option o [])
none_brought latest later None xs is none = subst (NoneAfter later) (sym (append-nil xs)) (none_later latest later xs is none)
none_brought latest later (Some x) xs is none = let at = is.1 in none_behind later xs x (none_later latest later xs is.0 none) (omega (arith, at))

pub ahead_on : (ks : List Kind) (latest later : ℕ) (line : List ℕ) (o : Option Tuple) (xs after : List Tuple) → brings ks latest line ≡ Ok (o, later) → after ≡ xs ++ cons_option o [] → NoneAfter latest xs → NoneAfter later after
ahead_on ks latest later line o xs after e is none = subst (NoneAfter later) (sym is) (none_brought latest later o xs (brings_later ks latest line o later e) none)

pub prefix_push : (xs ys zs : List Tuple) (x : Tuple) → IsPrefixOf xs ys → zs ≡ ys ++ x ∷ [] → IsPrefixOf xs zs
prefix_push xs ys zs x begins is = (begins.0 ++ x ∷ [], is ∙ ap (λ l. l ++ x ∷ []) begins.1 ∙ append_assoc xs begins.0 (x ∷ []))
