-- Blocks: what stays of them, and what a window takes of them.
use Rattle.std.proofs.Common.{◌≡◌, ℕ, zero, suc, ◌+◌, ◌-◌, ◌*◌, ◌<◌, ◌≤◌, length, length-drop, get_or, take, drop, List, [], ◌∷◌, ◌++◌, Bool, true, false, cond, Option, Some, None, Result, Ok, Err, OnOk, OnErr, refl, ap, ap₂, sym, ◌∙◌, subst, Ordering, Less, Equal, Greater, nat_cmp, arith, tests}
use Rattle.std.proofs.Math.Seq.{drop-nil}
use Rattle.std.proofs.lemmas.List.{get_or-drop, get_or_default}
use Rattle.std.specs.Prelude.{if◌then◌else◌, nat_lt, nat_le, ◌==◌, ◌&&◌, unwrap_or}
use Rattle.std.specs.Ordering.{match_ordering}
use Rattle.std.specs.List.{AllByRecursion, filter, remove}
use Rattle.sq_aggfn.specs.declared.WindowSpec.{WindowSpec}
use Rattle.sq_aggfn.specs.KeyedStates.{added}
use Rattle.sq_pane.specs.Panes.{NumbersRise, shift_of, within, joined_within, IsMadeIf}
use Rattle.sq_rows.specs.Rows.{total, joined_onto}
use Rattle.sq_pane.specs.Blocks.{AreBlocks, begins_before}
use Rattle.sq_pane.proofs.LineLemmas.{greater}
use Rattle.sq_rows.proofs.RowLemmas.{all-at, drop_at, run_next}

-- parts of lists
pub drop_add : {A : Type 0} (a b c : ℕ) (xs : List A) → c ≡ a + b → drop c xs ≡ drop b (drop a xs)
drop_add zero b c xs e = ap (λ n. drop n xs) (let f : c ≡ b = omega (arith, e) in f)
drop_add (suc a) b c [] e = drop-nil c ∙ sym (drop-nil b)
drop_add (suc a) b zero (x ∷ xs) e = absurd (omega (arith, e))
drop_add (suc a) b (suc c) (x ∷ xs) e = drop_add a b c xs (omega (arith, e))

module _ {A : Type 0} (P : A → Type 0) where
  pub all_drop : (n : ℕ) (xs : List A) → AllByRecursion P xs → AllByRecursion P (drop n xs)
  all_drop zero xs all = all
  all_drop (suc n) [] all = tt
  all_drop (suc n) (x ∷ xs) all = all_drop n xs all.1

  pub all_take : (n : ℕ) (xs : List A) → AllByRecursion P xs → AllByRecursion P (take n xs)
  all_take zero xs all = tt
  all_take (suc n) [] all = tt
  all_take (suc n) (x ∷ xs) all = (all.0, all_take n xs all.1)

  pub all_mapped : (Q : A → Type 0) → ((x : A) → P x → Q x) → (xs : List A) → AllByRecursion P xs → AllByRecursion Q xs
  all_mapped Q f [] all = tt
  all_mapped Q f (x ∷ xs) all = (f x all.0, all_mapped Q f xs all.1)

pub rises_drop : {M : Type 0} (n : ℕ) (es : List (ℕ × M)) → NumbersRise es → NumbersRise (drop n es)
rises_drop zero es up = up
rises_drop (suc n) [] up = tt
rises_drop (suc n) (e ∷ es) up = rises_drop n es up.1

pub total_split : {M : Type 0} (number : M → ℕ) (n : ℕ) (es : List (ℕ × M)) → total number (take n es) + total number (drop n es) ≡ total number es
total_split number zero es = omega arith
total_split number (suc n) [] = refl
total_split number (suc n) (e ∷ es) = (let s = total_split number n es in omega (arith, s))

-- those from a later place on hold no more tuples
pub total_later : {M : Type 0} (number : M → ℕ) (a c : ℕ) (es : List (ℕ × M)) → a ≤ c → total number (drop c es) ≤ total number (drop a es)
total_later number a c es le =
    let past = ap (total number) (drop_add a (c - a) c es (omega (arith, le))) in
    let run = total_split number (c - a) (drop a es) in
    omega (arith, past, run)

-- none is after the last
pub all_up_to : {M : Type 0} (n : ℕ) (es : List (ℕ × M)) → NumbersRise es → ((d : ℕ × M) → 0 < length es → (get_or es (length es - 1) d).0 ≤ n) → AllByRecursion (λ e. e.0 ≤ n) es
all_up_to n [] up last = tt
all_up_to n (e ∷ []) up last = (let z : length (e ∷ []) - 1 ≡ 0 = omega arith in subst (λ k. (get_or (e ∷ []) k e).0 ≤ n) z (last e (omega arith)), tt)
all_up_to {M} n (e ∷ h ∷ es) up last =
    let next : length (e ∷ h ∷ es) - 1 ≡ suc (length (h ∷ es) - 1) = omega arith in
    let rest = all_up_to n (h ∷ es) up.1 (λ (d : ℕ × M) (some : 0 < length (h ∷ es)). subst (λ k. (get_or (e ∷ h ∷ es) k d).0 ≤ n) next (last d (omega arith))) in
    (let low = up.0.0 in let le = rest.0 in omega (arith, low, le), rest)

-- and none is where the last is that of a pane
pub all_at_last : {M : Type 0} (n : ℕ) (es : List (ℕ × M)) → NumbersRise es → ((d : ℕ × M) → (get_or es (length es - 1) d).0 ≡ n) → AllByRecursion (λ e. e.0 ≤ n) es
all_at_last {M} n es up last = all_up_to n es up (λ (d : ℕ × M) (some : 0 < length es). (let at = last d in omega (arith, at)))

-- a state that is added to the last pane or behind it changes nothing before the last one
module _ {M : Type 0} (none : M) (join : M → M → M) (n : ℕ) (u : M) where
  abbrev put : List (ℕ × M) → List (ℕ × M)
  put es = added nat_cmp none join n u es

  abbrev choose : Ordering → ℕ × M → List (ℕ × M) → List (ℕ × M)
  choose o e es = match_ordering o ((n, join none u) ∷ e ∷ es) ((n, join e.1 u) ∷ es) (e ∷ put es)

  no_shorter : (es : List (ℕ × M)) → length es ≤ length (put es)
  no_shorter [] = omega arith
  no_shorter (e ∷ es) = by (nat_cmp n e.0) (no_shorter es)
    where
      by : (o : Ordering) → length es ≤ length (put es) → length (e ∷ es) ≤ length (choose o e es)
      by Less ih = omega arith
      by Equal ih = omega arith
      by Greater ih = omega (arith, ih)

  added_drop : (k : ℕ) (es : List (ℕ × M)) → NumbersRise es → AllByRecursion (λ e. e.0 ≤ n) es → k < length es → drop k (put es) ≡ put (drop k es)
  added_drop zero es up all lt = refl
  added_drop (suc k) [] up all lt = absurd (omega (arith, lt))
  added_drop (suc k) (e ∷ []) up all lt = absurd (omega (arith, lt))
  added_drop (suc k) (e ∷ h ∷ es) up all lt =
      let less : e.0 < n = (let low = up.0.0 in let le = all.1.0 in omega (arith, low, le)) in
      ap (λ o. drop (suc k) (choose o e (h ∷ es))) (greater n e.0 less) ∙ added_drop k (h ∷ es) up.1 all.1 (omega (arith, lt))

  added_take : (k : ℕ) (es : List (ℕ × M)) → NumbersRise es → AllByRecursion (λ e. e.0 ≤ n) es → k < length es → take k (put es) ≡ take k es
  added_take zero es up all lt = refl
  added_take (suc k) [] up all lt = absurd (omega (arith, lt))
  added_take (suc k) (e ∷ []) up all lt = absurd (omega (arith, lt))
  added_take (suc k) (e ∷ h ∷ es) up all lt =
      let less : e.0 < n = (let low = up.0.0 in let le = all.1.0 in omega (arith, low, le)) in
      ap (λ o. take (suc k) (choose o e (h ∷ es))) (greater n e.0 less) ∙ ap (λ l. e ∷ l) (added_take k (h ∷ es) up.1 all.1 (omega (arith, lt)))

  module _ (size : ℕ) (P : List (ℕ × M) → M → Type 0) where
    blocks_put : (bs : List M) (es : List (ℕ × M)) → NumbersRise es → AllByRecursion (λ e. e.0 ≤ n) es → AreBlocks size P bs es → AreBlocks size P bs (put es)
    blocks_put [] es up all is = tt
    blocks_put (b ∷ bs) es up all is = (
      let lt = is.0 in let longer = no_shorter es in omega (arith, lt, longer),
      subst (λ (l : List (ℕ × M)). P l b) (sym (added_take size es up all is.0)) is.1,
      subst (AreBlocks size P bs) (sym (added_drop size es up all is.0)) (blocks_put bs (drop size es) (rises_drop size es up) (all_drop (λ (e : ℕ × M). e.0 ≤ n) size es all) is.2),
    )

    pub blocks_added : (bs : List M) (k : ℕ) (es : List (ℕ × M)) → NumbersRise es → AllByRecursion (λ e. e.0 ≤ n) es → AreBlocks size P bs (drop k es) → AreBlocks size P bs (drop k (put es))
    blocks_added [] k es up all is = tt
    blocks_added (b ∷ bs) k es up all is =
        let inside : k < length es = (let lt = is.0 in let long = length-drop k es in omega (arith, lt, long)) in
        subst (AreBlocks size P (b ∷ bs)) (sym (added_drop k es up all inside)) (blocks_put (b ∷ bs) (drop k es) (rises_drop k es up) (all_drop (λ (e : ℕ × M). e.0 ≤ n) k es all) is)

-- one state goes
pub drop_next : {A : Type 0} (n : ℕ) (xs : List A) → drop (suc n) xs ≡ drop n (drop 1 xs)
drop_next n [] = sym (drop-nil n)
drop_next n (x ∷ xs) = refl

pub gone_first : {M : Type 0} (n : ℕ) (es : List (ℕ × M)) → begins_before n es ≡ true → filter (λ e. nat_le n e.0) es ≡ filter (λ e. nat_le n e.0) (drop 1 es)
gone_first n [] is = refl
gone_first n (e ∷ es) is =
    let no : nat_le n e.0 ≡ false = grind (arith, tests) in
    ap (λ b. cond b (e ∷ filter (λ e. nat_le n e.0) es) (filter (λ e. nat_le n e.0) es)) no

pub some_before : {M : Type 0} (n : ℕ) (es : List (ℕ × M)) → begins_before n es ≡ true → 0 < length es
some_before n [] is = cc
some_before n (e ∷ es) is = omega arith

kept_all : {M : Type 0} (n : ℕ) (es : List (ℕ × M)) → AllByRecursion (λ h. n ≤ h.0) es → filter (λ e. nat_le n e.0) es ≡ es
kept_all n [] all = refl
kept_all n (e ∷ es) all = ap (λ b. cond b (e ∷ filter (λ e. nat_le n e.0) es) (filter (λ e. nat_le n e.0) es)) (yes n e.0 all.0) ∙ ap (λ l. e ∷ l) (kept_all n es all.1)
  where
    yes : (a b : ℕ) → a ≤ b → nat_le a b ≡ true
    yes a b le = grind (arith, tests)

at_least : (a b : ℕ) → nat_lt b a ≡ false → a ≤ b
at_least a b out = grind (arith, tests)

pub none_gone : {M : Type 0} (n : ℕ) (es : List (ℕ × M)) → NumbersRise es → begins_before n es ≡ false → filter (λ e. nat_le n e.0) es ≡ es
none_gone n [] up is = refl
none_gone {M} n (e ∷ es) up is =
    let low = at_least n e.0 is in
    kept_all n (e ∷ es) (low, all_mapped (λ (h : ℕ × M). e.0 < h.0) (λ (h : ℕ × M). n ≤ h.0) (λ h lt. omega (arith, low, lt)) es up.0)

-- the next of some states in a row is joined, or passed by
pub next_joined : {M : Type 0} (none : M) (join : M → M → M) (w : WindowSpec) (width start : ℕ) (o : Option M) (es : List (ℕ × M)) (i : ℕ) (x : ℕ × M) (b : Bool) → i < length es → x ≡ get_or es i x → within w width start x.0 ≡ b
    → joined_within none join w width start o (drop i es) ≡ joined_within none join w width start (if b then Some (join (unwrap_or o none) x.1) else o) (drop (i + 1) es)
next_joined none join w width start o es i x b lt is test =
    ap (joined_within none join w width start o) (drop_at es i x lt is)
    ∙ ap (λ t. joined_within none join w width start (if t then Some (join (unwrap_or o none) x.1) else o) (drop (i + 1) es)) test

-- the first block goes with its first state
pub first_gone : {M : Type 0} (size : ℕ) (P : List (ℕ × M) → M → Type 0) (bs : List M) (es : List (ℕ × M)) → 1 ≤ size → AreBlocks size P bs es → AreBlocks size P (remove bs 0) (drop (size - 1) (drop 1 es))
first_gone size P [] es some is = tt
first_gone size P (b ∷ bs) es some is = subst (AreBlocks size P bs) (drop_add 1 (size - 1) size es (omega (arith, some))) is.2

pub empty_blocks : {M : Type 0} (size : ℕ) (P : List (ℕ × M) → M → Type 0) (bs : List M) (es : List (ℕ × M)) → length bs ≡ 0 → AreBlocks size P bs es
empty_blocks size P [] es none = tt
empty_blocks size P (b ∷ bs) es none = absurd (omega (arith, none))

pub no_blocks : {M : Type 0} (size : ℕ) (P : List (ℕ × M) → M → Type 0) (bs : List M) (es : List (ℕ × M)) → bs ≡ [] → AreBlocks size P bs es
no_blocks size P bs es none = subst (λ (l : List _). AreBlocks size P l es) (sym none) tt

-- the block at a place
pub next_block : {M : Type 0} (size : ℕ) (P : List (ℕ × M) → M → Type 0) (bs : List M) (k : ℕ) (b : M) (es : List (ℕ × M)) → k < length bs → b ≡ get_or bs k b → AreBlocks size P (drop k bs) es
    → (size < length es) × P (take size es) b × AreBlocks size P (drop (k + 1) bs) (drop size es)
next_block size P bs k b es lt is at = subst (λ l. AreBlocks size P l es) (drop_at bs k b lt is) at

-- one block more
module _ {M : Type 0} (size : ℕ) (P : List (ℕ × M) → M → Type 0) where
  pub blocks_more : (bs : List M) (b : M) (es : List (ℕ × M)) (k : ℕ) → k ≡ length bs * size → size < length (drop k es) → P (take size (drop k es)) b → AreBlocks size P bs es → AreBlocks size P (bs ++ b ∷ []) es
  blocks_more [] b es k e lt is at =
      let none : k ≡ 0 = grind (arith, e) in
      (subst (λ (n : ℕ). size < length (drop n es)) none lt, subst (λ (n : ℕ). P (take size (drop n es)) b) none is, tt)
  blocks_more (c ∷ cs) b es k e lt is at =
      let parts : k ≡ size + length cs * size = grind (arith, e) in
      let past = drop_add size (length cs * size) k es parts in
      (at.0, at.1, blocks_more cs b (drop size es) (length cs * size) refl (subst (λ (l : List (ℕ × M)). size < length l) past lt) (subst (λ (l : List (ℕ × M)). P (take size l) b) past is) at.2)

-- what stands between two states that a window covers is covered
times-le : (a b c : ℕ) → a < b → a * c ≤ b * c
times-le a b c h = grind arith

module _ (w : WindowSpec) (width start : ℕ) where
  abbrev low : ℕ
  low = start + shift_of w width

  within-both : (n : ℕ) → low ≤ n * width → n * width < low + w.size → within w width start n ≡ true
  within-both n a b = both low (n * width) (low + w.size) a b
    where
      both : (a b c : ℕ) → a ≤ b → b < c → (nat_le a b && nat_lt b c) ≡ true
      both a b c x y = grind (arith, tests)

  within-low : (n : ℕ) → within w width start n ≡ true → low ≤ n * width
  within-low n is = one low (n * width) (low + w.size) is
    where
      one : (a b c : ℕ) → (nat_le a b && nat_lt b c) ≡ true → a ≤ b
      one a b c x = grind (arith, tests)

  within-high : (n : ℕ) → within w width start n ≡ true → n * width < low + w.size
  within-high n is = other low (n * width) (low + w.size) is
    where
      other : (a b c : ℕ) → (nat_le a b && nat_lt b c) ≡ true → b < c
      other a b c x = grind (arith, tests)

  up-to : {M : Type 0} (n : ℕ) (es : List (ℕ × M)) (last : ℕ × M) → NumbersRise es → n < length es → last ≡ get_or es n last → within w width start last.0 ≡ true → AllByRecursion (λ e. low ≤ e.0 * width) es
      → AllByRecursion (λ e. within w width start e.0 ≡ true) (take (suc n) es)
  up-to n [] last up lt is covered lows = absurd (omega (arith, lt))
  up-to {M} zero (e ∷ es) last up lt is covered lows = (subst (λ (z : ℕ × M). within w width start z.0 ≡ true) is covered, tt)
  up-to {M} (suc n) (e ∷ es) last up lt is covered lows =
      let less : e.0 < last.0 = subst (λ (z : ℕ × M). e.0 < z.0) (sym is) (all-at (λ (h : ℕ × M). e.0 < h.0) es n last up.0 (omega (arith, lt))) in
      let le = times-le e.0 last.0 width less in
      let high = within-high last.0 covered in
      (within-both e.0 lows.0 (omega (arith, le, high)), up-to n es last up.1 (omega (arith, lt)) is covered lows.1)

  pub between : {M : Type 0} (n : ℕ) (es : List (ℕ × M)) (first last : ℕ × M) → NumbersRise es → n < length es → first ≡ get_or es 0 first → last ≡ get_or es n last → within w width start first.0 ≡ true → within w width start last.0 ≡ true
      → AllByRecursion (λ e. within w width start e.0 ≡ true) (take (suc n) es)
  between n [] first last up lt at is a b = absurd (omega (arith, lt))
  between {M} n (e ∷ es) first last up lt at is a b = up-to n (e ∷ es) last up lt is b (own, all_mapped (λ (h : ℕ × M). e.0 < h.0) (λ (h : ℕ × M). low ≤ h.0 * width) later es up.0)
    where
      own : low ≤ e.0 * width
      own = within-low e.0 (subst (λ (z : ℕ × M). within w width start z.0 ≡ true) at a)

      later : (h : ℕ × M) → e.0 < h.0 → low ≤ h.0 * width
      later h less = (let le = times-le e.0 h.0 width less in let from = own in omega (arith, le, from))

  row-covered : {M : Type 0} (n : ℕ) (es : List (ℕ × M)) → NumbersRise es → n ≤ length es → ((d : ℕ × M) → 0 < n → within w width start (get_or es 0 d).0 ≡ true) → ((d : ℕ × M) → 0 < n → within w width start (get_or es (n - 1) d).0 ≡ true)
      → AllByRecursion (λ e. within w width start e.0 ≡ true) (take n es)
  row-covered zero es up le a b = tt
  row-covered (suc n) [] up le a b = absurd (omega (arith, le))
  row-covered {M} (suc n) (e ∷ es) up le a b =
      let last = get_or (e ∷ es) n e in
      let before : suc n - 1 ≡ n = omega arith in
      let inside : n < length (e ∷ es) = omega (arith, le) in
      between n (e ∷ es) e last up inside refl (get_or_default (e ∷ es) n e last inside) (a e (omega arith)) (subst (λ k. within w width start (get_or (e ∷ es) k e).0 ≡ true) before (b e (omega arith)))

  -- between two places all are, where the first and the last are
  pub covered_between : {M : Type 0} (at end : ℕ) (es : List (ℕ × M)) → NumbersRise es → at ≤ end → end ≤ length es → ((d : ℕ × M) → at < end → within w width start (get_or es at d).0 ≡ true)
      → ((d : ℕ × M) → at < end → within w width start (get_or es (end - 1) d).0 ≡ true) → AllByRecursion (λ e. within w width start e.0 ≡ true) (take (end - at) (drop at es))
  covered_between {M} at end es up order room a b =
      let long = length-drop at es in
      row-covered (end - at) (drop at es) (rises_drop at es up) (omega (arith, order, room, long)) first last
    where
      first : (d : ℕ × M) → 0 < end - at → within w width start (get_or (drop at es) 0 d).0 ≡ true
      first d some =
          let plain : at + 0 ≡ at = omega arith in
          subst (λ (z : ℕ × M). within w width start z.0 ≡ true) (sym (get_or-drop at es 0 d ∙ ap (λ k. get_or es k d) plain)) (a d (omega (arith, some)))

      last : (d : ℕ × M) → 0 < end - at → within w width start (get_or (drop at es) (end - at - 1) d).0 ≡ true
      last d some =
          let place : at + (end - at - 1) ≡ end - 1 = omega (arith, some) in
          subst (λ (z : ℕ × M). within w width start z.0 ≡ true) (sym (get_or-drop at es (end - at - 1) d ∙ ap (λ k. get_or es k d) place)) (b d (omega (arith, some)))

  -- and so are those behind the first
  pub covered_behind : {M : Type 0} (at end : ℕ) (x : ℕ × M) (es : List (ℕ × M)) → at < end → end ≤ length es → x ≡ get_or es at x → AllByRecursion (λ e. within w width start e.0 ≡ true) (take (end - at) (drop at es))
      → AllByRecursion (λ e. within w width start e.0 ≡ true) (take (end - (at + 1)) (drop (at + 1) es))
  covered_behind {M} at end x es less room is all =
      (subst (AllByRecursion (λ (e : ℕ × M). within w width start e.0 ≡ true)) (run_next es at end x less (omega (arith, less, room)) is) all).1

-- a window takes a row of states that it covers, one after another
module _ {M : Type 0} (none : M) (join : M → M → M) (w : WindowSpec) (width start : ℕ) where
  abbrev gives : Option M → List (ℕ × M) → Option M
  gives o es = joined_within none join w width start o es

  pass-run : (n : ℕ) (m : M) (es : List (ℕ × M)) → n ≤ length es → AllByRecursion (λ e. within w width start e.0 ≡ true) (take n es) → gives (Some m) es ≡ gives (Some (joined_onto join m (take n es))) (drop n es)
  pass-run zero m es le all = refl
  pass-run (suc n) m [] le all = absurd (omega (arith, le))
  pass-run (suc n) m (e ∷ es) le all =
      ap (λ b. gives (if b then Some (join m e.1) else Some m) es) all.0 ∙ pass-run n (join m e.1) es (omega (arith, le)) all.1

  pub row_taken : (at end : ℕ) (m : M) (es : List (ℕ × M)) → at ≤ end → end ≤ length es → AllByRecursion (λ e. within w width start e.0 ≡ true) (take (end - at) (drop at es))
      → gives (Some (joined_onto join m (take (end - at) (drop at es)))) (drop end es) ≡ gives (Some m) (drop at es)
  row_taken at end m es order room all =
      let long = length-drop at es in
      ap (gives (Some (joined_onto join m (take (end - at) (drop at es))))) (drop_add at (end - at) end es (omega (arith, order)))
      ∙ sym (pass-run (end - at) m (drop at es) (omega (arith, order, room, long)) all)

-- a window takes a block whole
module _ {M : Type 0} (shaped : M → Type 0) (none : M) (join : M → M → M) (shaped_join : (a b : M) → shaped a → shaped b → shaped (join a b))
    (assoc : (a b c : M) → shaped a → shaped b → shaped c → join (join a b) c ≡ join a (join b c)) (first : (a : M) → shaped a → join none a ≡ a) where
  onto-join : (m a : M) (es : List (ℕ × M)) → shaped m → shaped a → AllByRecursion (λ e. shaped e.1) es → join m (joined_onto join a es) ≡ joined_onto join (join m a) es
  onto-join m a [] sm sa all = refl
  onto-join m a (e ∷ es) sm sa all =
      onto-join m (join a e.1) es sm (shaped_join a e.1 sa all.0) all.1
      ∙ ap (λ x. joined_onto join x es) (sym (assoc m a e.1 sm sa all.0))

  module _ (w : WindowSpec) (width start : ℕ) where
    abbrev taken : Option M → List (ℕ × M) → Option M
    taken o es = joined_within none join w width start o es

    pub block_taken : (n : ℕ) (o : Option M) (es : List (ℕ × M)) → suc n ≤ length es → shaped (unwrap_or o none) → AllByRecursion (λ e. shaped e.1) es → AllByRecursion (λ e. within w width start e.0 ≡ true) (take (suc n) es)
        → taken o es ≡ taken (Some (join (unwrap_or o none) (joined_onto join none (take (suc n) es)))) (drop (suc n) es)
    block_taken n o [] le so all is = absurd (omega (arith, le))
    block_taken n o (e ∷ es) le so all is =
        let m = unwrap_or o none in
        ap (λ b. taken (if b then Some (join m e.1) else o) es) is.0
        ∙ pass-run none join w width start n (join m e.1) es (omega (arith, le)) is.1
        ∙ ap (λ x. taken (Some x) (drop n es))
        (sym (onto-join m e.1 (take n es) so all.0 (all_take (λ (e : ℕ × M). shaped e.1) n es all.1)) ∙ ap (λ x. join m (joined_onto join x (take n es))) (sym (first e.1 all.0)))

    pub block_covered : (n at : ℕ) (o : Option M) (es : List (ℕ × M)) (x y : ℕ × M) (b : M) → NumbersRise es → at + suc n < length es → AllByRecursion (λ e. shaped e.1) es → shaped (unwrap_or o none)
        → x ≡ get_or es at x → y ≡ get_or es (at + n) y → within w width start x.0 ≡ true → within w width start y.0 ≡ true → b ≡ joined_onto join none (take (suc n) (drop at es))
        → taken (Some (join (unwrap_or o none) b)) (drop (at + suc n) es) ≡ taken o (drop at es)
    block_covered n at o es x y b up lt all so is end wx wy value =
        let run = drop at es in
        let long = length-drop at es in
        let plain : at + 0 ≡ at = omega arith in
        let is_first = is ∙ ap (λ k. get_or es k x) (sym plain) ∙ sym (get_or-drop at es 0 x) in
        let is_last = end ∙ sym (get_or-drop at es n y) in
        let covered = between w width start n run x y (rises_drop at es up) (omega (arith, lt, long)) is_first is_last wx wy in
        ap₂ (λ m l. taken (Some (join (unwrap_or o none) m)) l) value (drop_add at (suc n) (at + suc n) es refl)
        ∙ sym (block_taken n o run (omega (arith, lt, long)) so (all_drop (λ (e : ℕ × M). shaped e.1) at es all) covered)

-- what a call says of both its ends
pub both_ends : {T E X Y G : Type 0} (r : Result T E) → OnOk r X → OnErr r Y → (X → G) → (Y → G) → G
both_ends (Ok t) x y f h = f x
both_ends (Err e) x y f h = h y

-- what is joined has the form that the laws need
pub shaped_if : {M : Type 0} (made shaped : M → Type 0) (none : M) → ((m : M) → made m → shaped m) → shaped none → (o : Option M) → IsMadeIf made o → shaped (unwrap_or o none)
shaped_if made shaped none from sn None is = sn
shaped_if made shaped none from sn (Some m) is = from m is

-- blocks stand where there are some
pub blocks_within : {M : Type 0} (size : ℕ) (P : List (ℕ × M) → M → Type 0) (ahead : ℕ) (bs : List M) (es : List (ℕ × M)) → AreBlocks size P bs (drop ahead es) → (length bs == 0) ≡ false → ahead ≤ length es
blocks_within size P ahead [] es all some = cc
blocks_within size P ahead (b ∷ bs) es all some = (let room = all.0 in let long = length-drop ahead es in omega (arith, room, long))
