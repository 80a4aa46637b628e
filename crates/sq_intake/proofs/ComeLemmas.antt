-- The tuples that lines bring fit the schema, and their ticks don't fall.
use Rattle.std.proofs.Common.{max, ◌++◌, ◌≡◌, subst, ◌∙◌, ap, sym, ℕ, ◌+◌, ◌≤◌, refl, List, [], ◌∷◌, length, arith, Some, None, Ok, Err}
use Rattle.std.specs.Prelude.{Option, Result}
use Rattle.std.proofs.lemmas.List.{length-map}
use Rattle.sq_value.specs.declared.Kind.{Kind}
use Rattle.sq_value.specs.declared.Tuple.{Tuple}
use Rattle.sq_value.specs.Values.{Columns, kinds_of}
use Rattle.sq_value.proofs.FitLemmas.{kinds_fit_is}
use Rattle.sq_replay.specs.declared.why.Why.{Why}
use Rattle.sq_replay.specs.FileLines.{pieces_of}
use Rattle.sq_replay.specs.Streams.{tuple_of_line}
use Rattle.sq_replay.proofs.FitLemmas.{line_follows, tuples_of}
use Rattle.sq_replay.proofs.RecordedLemmas.{not_none}
use Rattle.sq_intake.specs.Incoming.{Incoming, Told, and_told, bare_line, brings, brought_by, punctuation_in, to_be_told, told_from}
use Rattle.sq_intake.specs.IncomingLaws.{ComeInOrder, Comes, ToldFits}

comes : (cs : Columns) (latest : ℕ) (line : List ℕ) (x : Tuple) → 1 ≤ length cs → length cs ≤ 16 → tuple_of_line (kinds_of cs) latest line ≡ Ok x → Comes cs latest x
comes cs latest line x least most read =
    let f = (line_follows (kinds_of cs) 0 latest line x read).1 in
    let same : length (kinds_of cs) ≡ length cs = length-map cs (λ c. c.1) in
    record {
      later = f.later;
      tuple = (tuples_of (kinds_of cs) latest (x ∷ []) (omega (arith, same)) (omega (arith, same)) (f, tt)).0;
      fits = sym (kinds_fit_is cs x.fields) ∙ f.fit.1;
    }

-- what a line brought may come, and nothing before it comes behind it
abbrev MayCome : Columns → ℕ → Option Tuple → ℕ → Type 0
MayCome cs latest None later = latest ≤ later
MayCome cs latest (Some x) later = Comes cs latest x × (x.time ≡ later)

abbrev tuple_in : Result (Option Tuple × ℕ) Why → Option Tuple
tuple_in (Ok p) = p.0
tuple_in (Err w) = None

abbrev ahead_in : Result (Option Tuple × ℕ) Why → ℕ
ahead_in (Ok p) = p.1
ahead_in (Err w) = 0

not_ok : {A : Type 0} (w : Why) (x : A) → Err w ≡ Ok x → ⊥
not_ok w x h = cc

brought_comes : (cs : Columns) (latest : ℕ) (mark : Option ℕ) (r : Result Tuple Why) (o : Option Tuple) (later : ℕ) → ((x : Tuple) → r ≡ Ok x → Comes cs latest x) → brought_by latest mark r ≡ Ok (o, later)
    → MayCome cs latest o later
brought_comes cs latest mark (Ok x) None later may h = absurd (not_none x (ap tuple_in h))
brought_comes cs latest mark (Ok x) (Some y) later may h =
    let one : Some x ≡ Some y = ap tuple_in h in
    let same : x ≡ y = cc in
    (subst (Comes cs latest) same (may x refl), sym (ap (λ (t : Tuple). t.time) same) ∙ ap ahead_in h)
brought_comes cs latest None (Err w) o later may h = absurd (not_ok w (o, later) h)
brought_comes cs latest (Some tick) (Err w) None later may h = let is : max latest tick ≡ later = ap ahead_in h in omega (arith, is)
brought_comes cs latest (Some tick) (Err w) (Some y) later may h = absurd (not_none y (sym (ap tuple_in h)))

brings_come : (cs : Columns) (latest : ℕ) (line : List ℕ) (o : Option Tuple) (later : ℕ) → 1 ≤ length cs → length cs ≤ 16 → brings (kinds_of cs) latest line ≡ Ok (o, later) → MayCome cs latest o later
brings_come cs latest [] None later least most h = let is : latest ≡ later = ap ahead_in h in omega (arith, is)
brings_come cs latest [] (Some x) later least most h = absurd (not_none x (sym (ap tuple_in h)))
brings_come cs latest (b ∷ bs) o later least most h =
    brought_comes cs latest (punctuation_in (b ∷ bs)) (tuple_of_line (kinds_of cs) latest (b ∷ bs)) o later (λ x read. comes cs latest (b ∷ bs) x least most read) h

come_later : (cs : Columns) (latest later : ℕ) (xs : List Tuple) → latest ≤ later → ComeInOrder cs later xs → ComeInOrder cs latest xs
come_later cs latest later [] before all = tt
come_later cs latest later (x ∷ xs) before all =
    let later_than = all.0.later in
    (record { later = omega (arith, later_than); tuple = all.0.tuple; fits = all.0.fits }, all.1)

told_comes : (cs : Columns) (latest n : ℕ) (r : Result (Option Tuple × ℕ) Why) (behind : ℕ → Told) → ((o : Option Tuple) (later : ℕ) → r ≡ Ok (o, later) → MayCome cs latest o later)
    → ((later : ℕ) → ComeInOrder cs later (behind later).tuples) → ComeInOrder cs latest (and_told n r behind).tuples
told_comes cs latest n (Err w) behind may all = tt
told_comes cs latest n (Ok (None, later)) behind may all = come_later cs latest later (behind later).tuples (may None later refl) (all later)
told_comes cs latest n (Ok (Some x, later)) behind may all =
    let come = may (Some x) later refl in
    (come.0, subst (λ t. ComeInOrder cs t (behind later).tuples) (sym come.1) (all later))

all_told : (cs : Columns) (latest n : ℕ) (pieces : List (List ℕ)) → 1 ≤ length cs → length cs ≤ 16 → ComeInOrder cs latest (told_from (kinds_of cs) latest n pieces).tuples
all_told cs latest n [] least most = tt
all_told cs latest n (piece ∷ pieces) least most =
    told_comes cs latest n (brings (kinds_of cs) latest (bare_line n piece)) (λ later. told_from (kinds_of cs) later (n + 1) pieces) (λ o later h. brings_come cs latest (bare_line n piece) o later least most h)
    (λ later. all_told cs later (n + 1) pieces least most)

coming_fits : (cs : Columns) (s : Incoming) (bytes : List ℕ) → 1 ≤ length cs → length cs ≤ 16 → s.kinds ≡ kinds_of cs → ComeInOrder cs s.latest (to_be_told s bytes).tuples
coming_fits cs s bytes least most kinds =
    subst (λ ks. ComeInOrder cs s.latest (told_from ks s.latest (s.passed + 1) (pieces_of (s.text ++ bytes))).tuples) (sym kinds) (all_told cs s.latest (s.passed + 1) (pieces_of (s.text ++ bytes)) least most)

come_front : (cs : Columns) (latest : ℕ) (xs ys : List Tuple) → ComeInOrder cs latest (xs ++ ys) → ComeInOrder cs latest xs
come_front cs latest [] ys all = tt
come_front cs latest (x ∷ xs) ys all = (all.0, come_front cs x.time xs ys all.1)

pub told_fits : ToldFits
told_fits = record {
  comes = coming_fits;
  read = λ cs a b piece now least most kinds moves.
      come_front cs a.latest now (to_be_told b []).tuples (subst (ComeInOrder cs a.latest) (ap (λ (t : Told). t.tuples) (moves [])) (coming_fits cs a (piece ++ []) least most kinds));
  halted = λ cs a piece now line w least most kinds halts.
      subst (ComeInOrder cs a.latest) (ap (λ (t : Told). t.tuples) (halts [])) (coming_fits cs a (piece ++ []) least most kinds);
}

-- a tuple that a line brought has the tick before which nothing comes behind it
abbrev pub IsLater : ℕ → Option Tuple → ℕ → Type 0
IsLater latest None later = latest ≤ later
IsLater latest (Some x) later = (latest ≤ later) × (x.time ≡ later)

brought_later : (latest : ℕ) (mark : Option ℕ) (r : Result Tuple Why) (o : Option Tuple) (later : ℕ) → ((x : Tuple) → r ≡ Ok x → latest ≤ x.time) → brought_by latest mark r ≡ Ok (o, later) → IsLater latest o later
brought_later latest mark (Ok x) None later may h = absurd (not_none x (ap tuple_in h))
brought_later latest mark (Ok x) (Some y) later may h =
    let one : Some x ≡ Some y = ap tuple_in h in
    let same : x ≡ y = cc in
    let at : x.time ≡ later = ap ahead_in h in
    let before = may x refl in
    (omega (arith, at, before), sym (ap (λ (t : Tuple). t.time) same) ∙ at)
brought_later latest None (Err w) o later may h = absurd (not_ok w (o, later) h)
brought_later latest (Some tick) (Err w) None later may h = let is : max latest tick ≡ later = ap ahead_in h in omega (arith, is)
brought_later latest (Some tick) (Err w) (Some y) later may h = absurd (not_none y (sym (ap tuple_in h)))

pub brings_later : (ks : List Kind) (latest : ℕ) (line : List ℕ) (o : Option Tuple) (later : ℕ) → brings ks latest line ≡ Ok (o, later) → IsLater latest o later
brings_later ks latest [] None later h = let is : latest ≡ later = ap ahead_in h in omega (arith, is)
brings_later ks latest [] (Some x) later h = absurd (not_none x (sym (ap tuple_in h)))
brings_later ks latest (b ∷ bs) o later h =
    brought_later latest (punctuation_in (b ∷ bs)) (tuple_of_line ks latest (b ∷ bs)) o later (λ x read. (line_follows ks 0 latest (b ∷ bs) x read).1.later) h
