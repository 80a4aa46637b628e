-- Pieces that are cut anywhere, and whole lines of them.
use Rattle.std.proofs.Common.{zero, suc, ◌≡◌, refl, sym, ap, subst, ◌∙◌, ℕ, ◌+◌, ◌-◌, ◌<◌, ◌≤◌, ◌==◌, Bool, true, arith, inl, inr}
use Rattle.std.proofs.Common.{List, [], ◌∷◌, ◌++◌, length, drop, take, get_or, Ok, Err, append_assoc}
use Rattle.std.specs.Prelude.{Option, Result, not, ◌&&◌, IfErr, OnOk}
use Rattle.std.specs.Result.{is_ok}
use Rattle.std.specs.List.{list_all}
use Rattle.std.proofs.lemmas.Bool.{cases_Bool}
use Rattle.std.proofs.lemmas.List.{append-nil, drop_all, length-append, length-drop, length-take, take-append-drop}
use Rattle.std.proofs.lemmas.List.Folds.{list_all-append}
use Rattle.sq_value.specs.declared.Kind.{Kind}
use Rattle.sq_value.specs.declared.Tuple.{Tuple}
use Rattle.sq_csv.specs.Cuts.{Lacks}
use Rattle.sq_lines.specs.Classes.{all_but_last, last_piece}
use Rattle.sq_replay.specs.declared.why.Why.{Why}
use Rattle.sq_replay.specs.FileLines.{pieces_of}
use Rattle.sq_intake.specs.Incoming.{Told, and_told, bare_line, brings, incoming, told_from, told_behind}
use Rattle.sq_intake.proofs.IncomingLemmas.{whole_drop, whole_pieces}
use Rattle.sq_words.proofs.Bools.{and_true, not_true}
use Rattle.sq_words.proofs.Lists.{list_all_front}
use Rattle.sq_intake.specs.Intakes.{AreWhole, IsHaltedBy, IsOverfull, KeepsLines, Overfills}
use Rattle.sq_intake.specs.declared.intake.IntakeErr.{IntakeErr}
use Rattle.sq_intake.specs.declared.intake.IntakeErr.TheVariants as error
use Rattle.sq_words.proofs.Results.{OnOk_weaker}

whole_cons : (b : ℕ) (text : List ℕ) → AreWhole text → 0 < length text → AreWhole (b ∷ text)
whole_cons b [] whole some = absurd (omega arith)
whole_cons b (c ∷ bs) whole some = whole

whole_append : (text lines : List ℕ) → AreWhole lines → 0 < length lines → AreWhole (text ++ lines)
whole_append [] lines whole some = whole
whole_append (b ∷ bs) lines whole some = whole_cons b (bs ++ lines) (whole_append bs lines whole some) (omega (arith, length-append bs lines, some))

whole_here : (k : ℕ) (piece : List ℕ) (d : ℕ) → k < length piece → get_or piece k d ≡ 10 → AreWhole (take (suc k) piece)
whole_here k [] d within is = absurd (omega arith)
whole_here zero (b ∷ bs) d within is = is
whole_here (suc k) (b ∷ bs) d within is =
    whole_cons b (take (suc k) bs) (whole_here k bs d (omega arith) is) (omega (arith, length-take (suc k) bs))

-- whole lines end in a line feed
pub whole_take : (piece : List ℕ) (at d : ℕ) → 0 < at → at ≤ length piece → get_or piece (at - 1) d ≡ 10 → AreWhole (take at piece)
whole_take piece zero d some within is = absurd (omega arith)
whole_take piece (suc k) d some within is =
    let same : suc k - 1 ≡ k = omega arith in
    whole_here k piece d (omega arith) (subst (λ i. get_or piece i d ≡ 10) same is)

lacks_append : (c : ℕ) (xs ys : List ℕ) → Lacks c xs → Lacks c ys → Lacks c (xs ++ ys)
lacks_append c xs ys front behind = let p : ℕ → Bool = λ b. not (b == c) in list_all-append p xs ys ∙ ap (λ t. t && list_all p ys) front ∙ behind

-- whole lines without a line feed are none
whole_lacks : (text : List ℕ) → AreWhole text → Lacks 10 text → text ≡ []
whole_lacks [] whole lacks = refl
whole_lacks (b ∷ []) whole lacks = let h = rw whole at lacks in cc
whole_lacks (b ∷ c ∷ bs) whole lacks =
    let none = whole_lacks (c ∷ bs) whole (and_true (not (b == 10)) (list_all (λ b. not (b == 10)) (c ∷ bs)) lacks).1 in
    cc

lacks_alone : (text : List ℕ) → Lacks 10 text → pieces_of text ≡ text ∷ []
lacks_alone [] lacks = refl
lacks_alone (b ∷ bs) lacks =
    let both = and_true (not (b == 10)) (list_all (λ b. not (b == 10)) bs) lacks in
    rw (not_true (b == 10) both.0, lacks_alone bs both.1) refl

-- what stands behind the last line feed
pub last_behind : (pieces : List (List ℕ)) (text : List ℕ) → Lacks 10 text → last_piece (pieces ++ pieces_of text) ≡ text
last_behind [] text lacks = ap last_piece (lacks_alone text lacks)
last_behind (p ∷ []) text lacks = ap (λ ps. last_piece (p ∷ ps)) (lacks_alone text lacks)
last_behind (p ∷ q ∷ pieces) text lacks = last_behind (q ∷ pieces) text lacks

last_kept : (lines kept : List ℕ) → AreWhole lines → Lacks 10 kept → last_piece (pieces_of (lines ++ kept)) ≡ kept
last_kept lines kept whole lacks = ap last_piece (whole_pieces lines kept whole) ∙ last_behind (all_but_last (pieces_of lines)) kept lacks

pub has_one : (bs : List ℕ) → (p : List ℕ) × (ps : List (List ℕ)) × (pieces_of bs ≡ p ∷ ps)
has_one [] = ([], [], refl)
has_one (b ∷ bs) = elim (cases_Bool (b == 10)) [
  | inl feed ↦ ([], pieces_of bs, rw feed refl)
  | inr other ↦ let more = has_one bs in (b ∷ more.0, more.1, rw (other, more.2) refl)
]

-- a line without bytes behind the others brings nothing
pub pieces_end : (text : List ℕ) → pieces_of (text ++ 10 ∷ []) ≡ pieces_of text ++ [] ∷ []
pieces_end [] = refl
pieces_end (b ∷ bs) = elim (cases_Bool (b == 10)) [
  | inl feed ↦ rw (feed, pieces_end bs) refl
  | inr other ↦ let some = has_one bs in rw (other, pieces_end bs, some.2) refl
]

bare_none : (n : ℕ) → bare_line n [] ≡ []
bare_none n = elim (cases_Bool (n == 1)) [ inl first ↦ rw first refl | inr later ↦ rw later refl ]

and_same : (n : ℕ) (r : Result (Option Tuple × ℕ) Why) (f g : ℕ → Told) → ((later : ℕ) → f later ≡ g later) → and_told n r f ≡ and_told n r g
and_same n (Ok p) f g same = ap (told_behind _) (same p.1)
and_same n (Err why) f g same = refl

pub told_end : (ks : List Kind) (latest n : ℕ) (pieces : List (List ℕ)) → told_from ks latest n (pieces ++ [] ∷ []) ≡ told_from ks latest n pieces
told_end ks latest n [] = ap (λ line. and_told n (brings ks latest line) (λ later. told_from ks later (n + 1) [])) (bare_none n)
told_end ks latest n (piece ∷ pieces) =
    and_same n (brings ks latest (bare_line n piece)) (λ later. told_from ks later (n + 1) (pieces ++ [] ∷ [])) (λ later. told_from ks later (n + 1) pieces) (λ later. told_end ks later (n + 1) pieces)

pub end_fed : (ks : List Kind) (latest n : ℕ) (text : List ℕ) → told_from ks latest n (pieces_of (text ++ [])) ≡ told_from ks latest n (pieces_of ((text ++ 10 ∷ []) ++ []))
end_fed ks latest n text =
    ap (λ t. told_from ks latest n (pieces_of t)) (append-nil text) ∙ sym (told_end ks latest n (pieces_of text)) ∙ ap (told_from ks latest n) (sym (pieces_end text))
    ∙ ap (λ t. told_from ks latest n (pieces_of t)) (sym (append-nil (text ++ 10 ∷ [])))

-- lines before a place passed, whatever is kept behind them
pub read_halts : (e : IntakeErr) (ks : List Kind) (latest passed : ℕ) (lines kept : List ℕ) (at : ℕ) (known now : List Tuple) → IsHaltedBy e (incoming ks latest passed (drop at lines)) known now
    → IsHaltedBy e (incoming ks latest passed (drop at lines ++ kept)) known now
read_halts (error.Bad line why) ks latest passed lines kept at known now halts =
    λ rest. ap (λ t. told_behind known (told_from ks latest (passed + 1) (pieces_of t))) (append_assoc (drop at lines) kept rest) ∙ halts (kept ++ rest)
read_halts error.TooLong ks latest passed lines kept at known now halts = halts
read_halts error.TooMany ks latest passed lines kept at known now halts = (
  record halts.0 { text = halts.0.text ++ kept },
  λ rest.
      ap (λ t. told_behind known (told_from ks latest (passed + 1) (pieces_of t))) (append_assoc (drop at lines) kept rest) ∙ halts.1 (kept ++ rest)
      ∙ ap (λ t. told_behind now (told_from halts.0.kinds halts.0.latest (halts.0.passed + 1) (pieces_of t))) (sym (append_assoc halts.0.text kept rest)),
  halts.2,
)
read_halts error.Memory ks latest passed lines kept at known now halts = tt

pub all_passed : (lines kept : List ℕ) (at next : ℕ) → KeepsLines lines at kept → next ≡ length lines → drop next lines ++ kept ≡ last_piece (pieces_of (drop at lines ++ kept))
all_passed lines kept at next keeps all =
    ap (λ t. t ++ kept) (drop_all next lines (omega (arith, all))) ∙ sym (last_kept (drop at lines) kept (whole_drop at lines keeps.whole) keeps.lacks)

pub shorter : (lines kept : List ℕ) (at next : ℕ) → at < next → next ≤ length lines → length (drop next lines ++ kept) < length (drop at lines ++ kept)
shorter lines kept at next on within = omega (arith, length-append (drop next lines) kept, length-append (drop at lines) kept, length-drop next lines, length-drop at lines)

-- a piece was put behind what is kept
pub add_halts : (r : Result (Unit {0}) IntakeErr) (front kept piece now : List ℕ) → AreWhole front → Lacks 10 now → IfErr r (λ e. Overfills e kept now piece) → IfErr r (λ e. IsOverfull e (front ++ kept) (front ++ now) piece)
add_halts (Ok x) front kept piece now whole lacks h = tt
add_halts (Err (error.Bad line why)) front kept piece now whole lacks h = absurd h
add_halts (Err error.TooLong) front kept piece now whole lacks h =
    (ap (λ t. front ++ t) h.0 ∙ sym (append_assoc front kept piece), subst (λ t. 67108864 < length t) (sym (last_kept front now whole lacks)) h.1)
add_halts (Err error.TooMany) front kept piece now whole lacks h = absurd h
add_halts (Err error.Memory) front kept piece now whole lacks h = tt

pub add_lacks : (r : Result (Unit {0}) IntakeErr) (kept piece now : List ℕ) → Lacks 10 kept → Lacks 10 piece → OnOk r ((now ≡ kept ++ piece) × (length now ≤ 67108864)) → IfErr r (λ e. Overfills e kept now piece) → Lacks 10 now
add_lacks (Ok x) kept piece now a b ok err = subst (Lacks 10) (sym ok.0) (lacks_append 10 kept piece a b)
add_lacks (Err (error.Bad line why)) kept piece now a b ok err = absurd err
add_lacks (Err error.TooLong) kept piece now a b ok err = subst (Lacks 10) (sym err.0) (lacks_append 10 kept piece a b)
add_lacks (Err error.TooMany) kept piece now a b ok err = absurd err
add_lacks (Err error.Memory) kept piece now a b ok err = subst (Lacks 10) (sym err) a

pub short_kept : (r : Result (Unit {0}) IntakeErr) (front kept piece now : List ℕ) → AreWhole front → Lacks 10 now → OnOk r ((now ≡ kept ++ piece) × (length now ≤ 67108864))
    → OnOk r (length (last_piece (pieces_of (front ++ now))) ≤ 67108864)
short_kept r front kept piece now whole lacks h = OnOk_weaker r (λ k. subst (λ t. length t ≤ 67108864) (sym (last_kept front now whole lacks)) k.1) h

-- a piece made lines whole, where those before had passed
filled_is : (lines : List ℕ) (at w : ℕ) (kept piece filled : List ℕ) → AreWhole lines → Lacks 10 (drop at lines ++ kept) → filled ≡ kept ++ take w piece → filled ++ drop w piece ≡ (drop at lines ++ kept) ++ piece
filled_is lines at w kept piece filled whole lacks is =
    let none : drop at lines ≡ [] = whole_lacks (drop at lines) (whole_drop at lines whole) (list_all_front (λ b. not (b == 10)) (drop at lines) kept lacks) in
    ap (λ t. t ++ drop w piece) is ∙ append_assoc kept (take w piece) (drop w piece) ∙ ap (λ t. kept ++ t) (take-append-drop w piece) ∙ ap (λ t. (t ++ kept) ++ piece) (sym none)

pub fill_ok : (r : Result (Unit {0}) IntakeErr) (lines : List ℕ) (at w : ℕ) (kept piece filled none now : List ℕ) → AreWhole lines → Lacks 10 (drop at lines ++ kept) → filled ≡ kept ++ take w piece → none ≡ []
    → OnOk r ((now ≡ none ++ drop w piece) × (length now ≤ 67108864)) → OnOk r (filled ++ now ≡ (drop at lines ++ kept) ++ piece)
fill_ok r lines at w kept piece filled none now whole lacks is empty h =
    OnOk_weaker r (λ k. ap (λ t. filled ++ t) (k.0 ∙ ap (λ t. t ++ drop w piece) empty) ∙ filled_is lines at w kept piece filled whole lacks is) h

pub fill_halts : (r : Result (Unit {0}) IntakeErr) (lines : List ℕ) (at w : ℕ) (kept piece filled none now : List ℕ) → AreWhole lines → Lacks 10 (drop at lines ++ kept) → filled ≡ kept ++ take w piece → none ≡ [] → AreWhole filled → Lacks 10 now
    → IfErr r (λ e. Overfills e none now (drop w piece)) → IfErr r (λ e. IsOverfull e (drop at lines ++ kept) (filled ++ now) piece)
fill_halts (Ok x) lines at w kept piece filled none now whole lacks is empty ends rest h = tt
fill_halts (Err (error.Bad line why)) lines at w kept piece filled none now whole lacks is empty ends rest h = absurd h
fill_halts (Err error.TooLong) lines at w kept piece filled none now whole lacks is empty ends rest h = (
  ap (λ t. filled ++ t) (h.0 ∙ ap (λ t. t ++ drop w piece) empty) ∙ filled_is lines at w kept piece filled whole lacks is,
  subst (λ t. 67108864 < length t) (sym (last_kept filled now ends rest)) h.1,
)
fill_halts (Err error.TooMany) lines at w kept piece filled none now whole lacks is empty ends rest h = absurd h
fill_halts (Err error.Memory) lines at w kept piece filled none now whole lacks is empty ends rest h = tt

pub on_ok : {T E : Type 0} {P : Type 0} (r : Result T E) → OnOk r P → is_ok r ≡ true → P
on_ok (Ok x) h fine = h
on_ok (Err e) h fine = cc

pub filled_whole : (w : ℕ) (kept piece filled : List ℕ) → AreWhole (take w piece) → 0 < w → w ≤ length piece → filled ≡ kept ++ take w piece → AreWhole filled
filled_whole w kept piece filled whole some within is = subst AreWhole (sym is) (whole_append kept (take w piece) whole (omega (arith, length-take w piece)))

pub none_lacks : (text : List ℕ) → text ≡ [] → Lacks 10 text
none_lacks text none = subst (Lacks 10) (sym none) refl

pub same_last : (lines kept : List ℕ) (at next : ℕ) → KeepsLines lines at kept → last_piece (pieces_of (drop next lines ++ kept)) ≡ last_piece (pieces_of (drop at lines ++ kept))
same_last lines kept at next keeps =
    last_kept (drop next lines) kept (whole_drop next lines keeps.whole) keeps.lacks ∙ sym (last_kept (drop at lines) kept (whole_drop at lines keeps.whole) keeps.lacks)
