-- What a walk knows behind one line more.
use Rattle.std.proofs.Common.{◌≡◌, ◌≢◌, inl, inr, ℕ, zero, suc, ◌+◌, ◌<◌, ◌==◌, ◌||◌, max, Bool, true, false, not, List, [], ◌∷◌, ◌++◌, length, map, drop, get_or, refl, ap, sym, ◌∙◌, arith, append-nil, Some, None}
use Rattle.std.specs.Prelude.{nat_lt, slice_get, slice_index, option_map, if◌then◌else◌}
use Rattle.std.specs.List.{find, list_any}
use Rattle.std.proofs.lemmas.Bool.{cases_Bool, or_parts}
use Rattle.std.proofs.lemmas.Bool.Decides.{nat_tests}
use Rattle.std.proofs.lemmas.Grind.{flat_map-append}
use Rattle.std.proofs.lemmas.List.{length-append}
use Rattle.std.proofs.lemmas.List.Folds.{list_any-append}
use Rattle.std.proofs.lemmas.Option.{slice_get-map}
use Rattle.sq_value.specs.declared.Tuple.{Tuple}
use Rattle.sq_words.specs.Lists.{max_by, same_bytes}
use Rattle.sq_lines.specs.Classes.{whole_lines, unfinished}
use Rattle.sq_verdict.specs.declared.verdict.AuditWhy.{AuditWhy}
use Rattle.sq_verdict.specs.declared.verdict.AuditWhy.TheVariants as why
use Rattle.sq_verdict.specs.declared.verdict.Verdict.{Verdict}
use Rattle.sq_verdict.specs.declared.verdict.Verdict.TheVariants as verdict
use Rattle.sq_wanted.specs.declared.wanted.Wanted.{Wanted}
use Rattle.sq_verdict.specs.Cutting.{IsCut, IsRest}
use Rattle.sq_verdict.specs.Faults.{Lines, batch_of, drop_told_in, recorded, output_told_in, is_end, is_short, class_fault, fault_of, fault_at_line, verdict_from, verdict_on}
use Rattle.sq_wanted.specs.Showing.{has_first, count_of, shown_one}
use Rattle.sq_verdict.specs.Wanting.{shown_of}
use Rattle.sq_verdict.specs.Walking.{IsAfter, AreAtPlaces, IsMost}
use Rattle.sq_wanted.specs.Places.{IsAtPlace}
use Rattle.sq_verdict.proofs.Accepts.{found, any_none, ends_last-is}
use Rattle.sq_verdict.proofs.PlaceLemmas.{names_of}
use Rattle.sq_words.proofs.Lists.{max_one}
use Rattle.sq_words.proofs.Bools.{or_false}

-- ---- the output with a number, among lines by name
pub record Named (shown : Lines) (i : ℕ) (name : List ℕ) : Type 0 where
  pub x : List ℕ × List (List ℕ)
  pub at : slice_get shown i ≡ Some x
  pub from : drop i shown ≡ x ∷ drop (i + 1) shown
  pub name_is : x.0 ≡ name

abbrev names : Lines → List (List ℕ)
names shown = map (λ o. o.0) shown

both_parts : (x y : List ℕ) (xs ys : List (List ℕ)) → x ∷ xs ≡ y ∷ ys → (x ≡ y) × (xs ≡ ys)
both_parts x y xs ys e = (cc, cc)

pub named_at : (shown : Lines) (os : List Wanted) (i : ℕ) (o : Wanted) → names shown ≡ names_of os → i < length os → o ≡ get_or os i o → Named shown i o.name
named_at shown [] i o e inside at = absurd (omega arith)
named_at [] (y ∷ os) i o e inside at = cc
named_at (x ∷ shown) (y ∷ os) zero o e inside at =
    record { x = x; at = refl; from = refl; name_is = (both_parts x.0 y.name (names shown) (names_of os) e).0 ∙ ap (λ (z : Wanted). z.name) (sym at) }
named_at (x ∷ shown) (y ∷ os) (suc i) o e inside at =
    let m = named_at shown os i o (both_parts x.0 y.name (names shown) (names_of os) e).1 (omega (arith, inside)) at in
    let one : suc (i + 1) ≡ suc i + 1 = omega arith in
    record { x = m.x; at = m.at; from = m.from ∙ ap (λ k. m.x ∷ drop k (x ∷ shown)) one; name_is = m.name_is }

module _ (p : List ℕ × List (List ℕ) → Bool) where
  find_passes : (x : List ℕ × List (List ℕ)) (xs : Lines) → p x ≡ true → find p (x ∷ xs) ≡ Some x
  find_passes x xs h = rw h refl

  find_fails : (x : List ℕ × List (List ℕ)) (xs : Lines) → p x ≡ false → find p (x ∷ xs) ≡ find p xs
  find_fails x xs h = rw h refl

module _ (shown : Lines) (os : List Wanted) (i : ℕ) (o : Wanted) (field : List ℕ) (e : names shown ≡ names_of os) (inside : i < length os) (at : o ≡ get_or os i o) where
  abbrev p : List ℕ × List (List ℕ) → Bool
  p x = same_bytes field x.0

  m : Named shown i o.name
  m = named_at shown os i o e inside at

  pub output_found : same_bytes field o.name ≡ true → find p shown ≡ find p (drop i shown) → find p shown ≡ slice_get shown i
  unfolding m
  output_found holds h =
      h ∙ ap (find p) m.from ∙ find_passes p m.x (drop (i + 1) shown) (ap (same_bytes field) m.name_is ∙ holds) ∙ sym m.at

  pub output_later : same_bytes field o.name ≡ false → find p shown ≡ find p (drop i shown) → find p shown ≡ find p (drop (i + 1) shown)
  unfolding m
  output_later fails h =
      h ∙ ap (find p) m.from ∙ find_fails p m.x (drop (i + 1) shown) (ap (same_bytes field) m.name_is ∙ fails)

-- ---- the output of a line, among those of which this is wanted
module _ (record_at : ℕ → List ℕ) (streams : List (List Tuple)) (line : List ℕ) where
  pub shown_names : (os : List Wanted) → names (shown_of record_at streams os) ≡ names_of os
  shown_names [] = refl
  shown_names (o ∷ os) = ap (λ x. o.name ∷ x) (shown_names os)

  named_none : (os : List Wanted) → list_any (λ o. has_first o.0 line) (shown_of record_at streams os) ≡ false → list_any (λ (o : Wanted). has_first o.name line) os ≡ false
  named_none [] h = refl
  named_none (o ∷ os) h =
      let parts = or_parts (has_first o.name line) (list_any (λ o. has_first o.0 line) (shown_of record_at streams os)) h in
      rw parts.0 (named_none os parts.1)

  pub none_found : (os : List Wanted) → output_told_in (shown_of record_at streams os) line ≡ None → list_any (λ (o : Wanted). has_first o.name line) os ≡ false
  none_found os e = named_none os (any_none (λ o. has_first o.0 line) (shown_of record_at streams os) e)

  pub one_found : (os : List Wanted) (i : ℕ) (o : Wanted) → slice_get os i ≡ Some o → output_told_in (shown_of record_at streams os) line ≡ slice_get (shown_of record_at streams os) i
      → (output_told_in (shown_of record_at streams os) line ≡ Some (shown_one record_at streams o)) × (has_first o.name line ≡ true)
  one_found os i o at e =
      let is = e ∙ slice_get-map (shown_one record_at streams) os i ∙ ap (option_map (shown_one record_at streams)) at in
      (is, (found (λ o. has_first o.0 line) (shown_of record_at streams os) (shown_one record_at streams o) is).passes)

-- ---- what was recorded

recorded_more : (drops : ℕ) (before : List (List ℕ)) (line : List ℕ) (w : ℕ) → recorded drops (before ++ (line ∷ [])) w ≡ recorded drops before w ++ batch_of w (drop_told_in drops line)
recorded_more drops before line w =
    flat_map-append (λ l. batch_of w (drop_told_in drops l)) before (line ∷ []) ∙ ap (λ x. recorded drops before w ++ x) (append-nil (batch_of w (drop_told_in drops line)))

pub most_same : (drops : ℕ) (most : List ℕ) (before : List (List ℕ)) (line : List ℕ) → drop_told_in drops line ≡ None → IsMost drops most before → IsMost drops most (before ++ (line ∷ []))
most_same drops most before line none h w inside =
    h w inside ∙ sym (ap (max_by (λ b. b + 1)) (recorded_more drops before line w ∙ ap (λ o. recorded drops before w ++ batch_of w o) none ∙ append-nil (recorded drops before w)))

pub most_after : (drops : ℕ) (most now : List ℕ) (before : List (List ℕ)) (line : List ℕ) (v b : ℕ) → drop_told_in drops line ≡ Some (v, b) → slice_index now v ≡ max (slice_index most v) (b + 1)
    → ((j : ℕ) → j ≢ v → slice_index now j ≡ slice_index most j) → IsMost drops most before → IsMost drops now (before ++ (line ∷ []))
most_after drops most now before line v b is hit miss h w inside =
    elim (cases_Bool (v == w)) [
      | inl holds ↦
          let same : v ≡ w = grind (arith, nat_tests, holds) in
          let batch : batch_of w (Some (v, b)) ≡ b ∷ [] = rw holds refl in
          let all = recorded_more drops before line w ∙ ap (λ o. recorded drops before w ++ batch_of w o) is ∙ ap (λ x. recorded drops before w ++ x) batch in
          ap (slice_index now) (sym same) ∙ hit ∙ ap (λ k. max (slice_index most k) (b + 1)) same ∙ ap (λ k. max k (b + 1)) (h w inside) ∙ sym (ap (max_by (λ k. k + 1)) all ∙ max_one (recorded drops before w) b)
      | inr fails ↦
          let batch : batch_of w (Some (v, b)) ≡ [] = rw fails refl in
          let all = recorded_more drops before line w ∙ ap (λ o. recorded drops before w ++ batch_of w o) is ∙ ap (λ x. recorded drops before w ++ x) batch ∙ append-nil (recorded drops before w) in
          miss w (λ e. let yes : (v == w) ≡ true = grind (arith, nat_tests, e) in absurd (cc)) ∙ h w inside ∙ sym (ap (max_by (λ k. k + 1)) all)
    ]

-- where no end came before, a fault is that of the line's class
pub unended_fault : (shown : Lines) (drops : ℕ) (before : List (List ℕ)) (line : List ℕ) → list_any is_end before ≡ false → class_fault drops before line (output_told_in shown line) ≡ fault_of shown drops before line
unended_fault shown drops before line e = rw e refl

-- ---- one line more

pub after_step : (record_at : ℕ → List ℕ) (streams : List (List Tuple)) (os : List Wanted) (drops : ℕ) (ended b : Bool) (most places now_most now_places : List ℕ) (before : List (List ℕ)) (line : List ℕ)
    → IsAfter record_at streams os drops ended most places before → ended ≡ false → b ≡ is_end line → IsMost drops now_most (before ++ (line ∷ []))
    → AreAtPlaces record_at streams os now_places (before ++ (line ∷ [])) → IsAfter record_at streams os drops b now_most now_places (before ++ (line ∷ []))
after_step record_at streams os drops ended b most places now_most now_places before line h fails is reached placed = record {
  any = list_any-append is_end before (line ∷ []) ∙ ap (λ t. t || (is_end line || false)) (h.any ∙ fails) ∙ or_false (is_end line) ∙ sym is;
  last = ends_last-is before line ∙ sym is;
  most_is = reached;
  places_are = placed;
}

-- what a walk has seen
pub record Walked (record_at : ℕ → List ℕ) (streams : List (List Tuple)) (os : List Wanted) (drops : ℕ) (text left : List ℕ) (ended : Bool) (most places : List ℕ) (number : ℕ) : Type 0 where
  pub before : List (List ℕ)
  pub after : IsAfter record_at streams os drops ended most places before
  pub number_is : number ≡ length before
  pub verdict_is : verdict_from (shown_of record_at streams os) drops (unfinished text) before (whole_lines left) ≡ verdict_on (shown_of record_at streams os) drops text
  pub left_is : unfinished left ≡ unfinished text

module _ (record_at : ℕ → List ℕ) (streams : List (List Tuple)) (os : List Wanted) (drops : ℕ) (text : List ℕ) where
  abbrev shown : Lines
  shown = shown_of record_at streams os

  pub walked_none : (most places : List ℕ) → ((w : ℕ) → slice_index most w ≡ 0) → ((i : ℕ) → slice_index places i ≡ 0)
      → Walked record_at streams os drops text text false most places 0
  walked_none most places m c = record {
    before = [];
    after = record { any = refl; last = refl; most_is = λ w inside. m w; places_are = λ i o at. by i o };
    number_is = refl;
    verdict_is = refl;
    left_is = refl;
  }
    where
      by : (i : ℕ) (o : Wanted) → IsAtPlace record_at streams o (slice_index places i) []
      by i o = rw (c i) refl

  module _ (left line rest : List ℕ) (ended : Bool) (most places : List ℕ) (number : ℕ) (h : Walked record_at streams os drops text left ended most places number) (cut : IsCut left line rest) where
    next_verdict : verdict_from shown drops (unfinished text) h.before (line ∷ whole_lines rest) ≡ verdict_on shown drops text
    next_verdict = ap (verdict_from shown drops (unfinished text) h.before) (sym cut.whole) ∙ h.verdict_is

    pub walked_more : (b : Bool) (now_most now_places : List ℕ) → fault_of shown drops h.before line ≡ None → IsAfter record_at streams os drops b now_most now_places (h.before ++ (line ∷ []))
        → Walked record_at streams os drops text rest b now_most now_places (number + 1)
    walked_more b now_most now_places none after = record {
      before = h.before ++ (line ∷ []);
      after = after;
      number_is = ap (λ k. k + 1) h.number_is ∙ sym (length-append h.before (line ∷ []));
      verdict_is = sym (ap (λ o. fault_at_line (length h.before) o (verdict_from shown drops (unfinished text) (h.before ++ (line ∷ [])) (whole_lines rest))) none) ∙ next_verdict;
      left_is = sym cut.left ∙ h.left_is;
    }

    pub walked_fault : (y : AuditWhy) → fault_of shown drops h.before line ≡ Some y → verdict.No (number + 1) y ≡ verdict_on shown drops text
    walked_fault y some =
        ap (λ k. verdict.No (k + 1) y) h.number_is
        ∙ sym (ap (λ o. fault_at_line (length h.before) o (verdict_from shown drops (unfinished text) (h.before ++ (line ∷ [])) (whole_lines rest))) some) ∙ next_verdict

-- the end of a walk
abbrev pub ending : Bool → ℕ → Verdict
ending short number = if short then verdict.No (number + 1) why.Short else verdict.Yes

pub walked_all : (record_at : ℕ → List ℕ) (streams : List (List Tuple)) (os : List Wanted) (drops : ℕ) (text left : List ℕ) (ended : Bool) (most places : List ℕ) (number : ℕ) (short : Bool)
    → (h : Walked record_at streams os drops text left ended most places number) → IsRest left
    → short ≡ (not (length left == 0) || not ended || list_any (λ o. nat_lt (count_of h.before o.0) (length o.1)) (shown_of record_at streams os))
    → ending short number ≡ verdict_on (shown_of record_at streams os) drops text
walked_all record_at streams os drops text left ended most places number short h rest s =
    ap (λ k. ending short k) h.number_is
    ∙ ap (λ t. ending t (length h.before)) (s
    ∙ ap (λ t. not (length left == 0) || not t || list_any (λ o. nat_lt (count_of h.before o.0) (length o.1)) (shown_of record_at streams os)) (sym h.after.last)
    ∙ ap (is_short (shown_of record_at streams os) h.before) (sym rest.left ∙ h.left_is))
    ∙ ap (verdict_from (shown_of record_at streams os) drops (unfinished text) h.before) (sym rest.whole) ∙ h.verdict_is
