-- The windows that cover a tuple, one tuple after another, are all windows with a result.
use Rattle.std.proofs.Common.{◌≡◌, ℕ, zero, suc, ◌+◌, ◌-◌, ◌^◌, ◌<◌, ◌≤◌, max, Bool, true, false, cond, ◌&&◌, List, [], ◌∷◌, ◌++◌, map, length, take, drop, length-drop, refl, ap, sym, ◌∙◌, arith, tests}
use Rattle.std.proofs.Math.Nat.{div-mul-le_self}
use Rattle.std.proofs.lemmas.List.{take_all}
use Rattle.std.proofs.lemmas.List.Folds.{flat_map-map}
use Rattle.std.proofs.lemmas.Grind.{flat_map-append}
use Rattle.std.specs.Prelude.{if◌then◌else◌, nat_lt, nat_le}
use Rattle.std.specs.List.{AllByRecursion, flat_map, range_with_len}
use Rattle.sq_value.specs.declared.Value.{Value}
use Rattle.sq_value.specs.declared.Tuple.{Tuple}
use Rattle.sq_value.specs.Values.{IsStream, fields_cmp}
use Rattle.sq_words.specs.Lists.{max_by, numbers_to}
use Rattle.sq_value.proofs.ValueOrder.{fields_order, fields_same}
use Rattle.sq_aggfn.specs.Windows.{IsWindow, start_of, started}
use Rattle.sq_aggfn.proofs.StartLemmas.{starts_before, starts_after, started_more}
use Rattle.sq_aggfn.specs.Folds.{joined_from}
use Rattle.sq_aggfn.specs.Groups.{group_of}
use Rattle.sq_aggfn.specs.KeyedStates.{keyed_from}
use Rattle.sq_aggfn.specs.declared.WindowSpec.{WindowSpec}
use Rattle.sq_lists.specs.Windows.{in_group, groups_of, in_window, window_results, aggregate_of}
use Rattle.sq_lists.proofs.GroupLemmas.{keyed-list}
use Rattle.sq_lists.specs.WindowParts.{leading, told_results, numbered_results, TimesNotFalling}
use Rattle.sq_words.proofs.Ranges.{range_split}
use Rattle.sq_words.proofs.Alls.{all_weaker}

-- two functions that agree on the numbers of a range
pub flat_map-range : {A : Type 0} (f g : ℕ → List A) (a n : ℕ) → ((p : ℕ) → a ≤ p → p < a + n → f p ≡ g p) → flat_map f (range_with_len a n) ≡ flat_map g (range_with_len a n)
flat_map-range f g a zero h = refl
flat_map-range f g a (suc n) h =
    ap (λ l. l ++ flat_map f (range_with_len (a + 1) n)) (h a (omega arith) (omega arith))
    ∙ ap (λ l. g a ++ l) (flat_map-range f g (a + 1) n (λ p lo hi. h p (omega arith) (omega arith)))

-- what gives nothing for the numbers of a range
pub flat_map-nothing : {A : Type 0} (f : ℕ → List A) (a n : ℕ) → ((p : ℕ) → a ≤ p → p < a + n → f p ≡ []) → flat_map f (range_with_len a n) ≡ []
flat_map-nothing f a zero h = refl
flat_map-nothing f a (suc n) h = ap (λ l. l ++ flat_map f (range_with_len (a + 1) n)) (h a (omega arith) (omega arith)) ∙ flat_map-nothing f (a + 1) n (λ p lo hi. h p (omega arith) (omega arith))

-- a stream
stream-rises : (xs : List Tuple) (least : ℕ) → AllByRecursion (λ x. least ≤ x.time) (take 1 xs) → IsStream xs → TimesNotFalling least xs
stream-rises [] least low h = tt
stream-rises (x ∷ []) least low h = (low.0, tt)
stream-rises (x ∷ y ∷ rest) least low h = (low.0, stream-rises (y ∷ rest) x.time (h.0, tt) h.1)

pub stream_rises : (xs : List Tuple) → IsStream xs → TimesNotFalling 0 xs
stream_rises [] h = tt
stream_rises (x ∷ xs) h = stream-rises (x ∷ xs) 0 (omega arith, tt) h

pub lower : (a b : ℕ) (xs : List Tuple) → a ≤ b → TimesNotFalling b xs → TimesNotFalling a xs
lower a b [] le h = tt
lower a b (x ∷ xs) le h = (omega (arith, le, h.0), h.1)

pub all-later : (least : ℕ) (xs : List Tuple) → TimesNotFalling least xs → AllByRecursion (λ x. least ≤ x.time) xs
all-later least [] h = tt
all-later least (x ∷ xs) h = (h.0, all-later least xs (lower least x.time xs h.0 h.1))

module _ (w : WindowSpec) where
  -- a window that ends before all tuples
  pub none-inside : (start least : ℕ) (xs : List Tuple) → start + w.size ≤ least → TimesNotFalling least xs → in_window w start xs ≡ []
  none-inside start least [] h up = refl
  none-inside start least (x ∷ xs) h up =
      let out : (nat_le start x.time && nat_lt x.time (start + w.size)) ≡ false = later start w.size x.time (omega (arith, h, up.0)) in
      ap (λ b. cond b (x ∷ in_window w start xs) (in_window w start xs)) out ∙ none-inside start x.time xs (omega (arith, h, up.0)) up.1
    where
      later : (start size time : ℕ) → start + size ≤ time → (nat_le start time && nat_lt time (start + size)) ≡ false
      later start size time h = grind (arith, tests)

  -- a window that begins after a tuple
  pub not-yet : (start : ℕ) (x : Tuple) (xs : List Tuple) → x.time < start → in_window w start (x ∷ xs) ≡ in_window w start xs
  not-yet start x xs h = ap (λ b. cond b (x ∷ in_window w start xs) (in_window w start xs)) (early start w.size x.time h)
    where
      early : (start size time : ℕ) → time < start → (nat_le start time && nat_lt time (start + size)) ≡ false
      early start size time h = grind (arith, tests)

  -- the tuples of a window that begins before all tuples stand first
  pub leading_is : (start least : ℕ) (xs : List Tuple) → start ≤ least → TimesNotFalling least xs → take (leading (start + w.size) xs) xs ≡ in_window w start xs
  leading_is start least [] h up = refl
  leading_is start least (x ∷ xs) h up = by (nat_lt x.time (start + w.size)) refl (leading_is start x.time xs (omega (arith, h, up.0)) up.1)
    where
      by : (b : Bool) → nat_lt x.time (start + w.size) ≡ b → take (leading (start + w.size) xs) xs ≡ in_window w start xs
          → take (if b then suc (leading (start + w.size) xs) else 0) (x ∷ xs) ≡ in_window w start (x ∷ xs)
      by true e ih = ap (λ l. x ∷ l) ih ∙ ap (λ b. cond b (x ∷ in_window w start xs) (in_window w start xs)) (sym (inside start w.size x.time least h up.0 e))
        where
          inside : (start size time least : ℕ) → start ≤ least → least ≤ time → nat_lt time (start + size) ≡ true → (nat_le start time && nat_lt time (start + size)) ≡ true
          inside start size time least h k e = grind (arith, tests)
      by false e ih = sym (none-inside start x.time (x ∷ xs) (outside x.time (start + w.size) e) (omega arith, up.1))
        where
          outside : (time end : ℕ) → nat_lt time end ≡ false → end ≤ time
          outside time end e = grind (arith, tests)

-- one more than the number of the last window
abbrev pub window_count : WindowSpec → List Tuple → ℕ
window_count w xs = started w (max_by (λ x. x.time) xs)

-- the results of the windows that aren't gone over, of the tuples that aren't
abbrev pub left_results : (List Tuple → List Value) → List ℕ → WindowSpec → List Tuple → ℕ → List Tuple
left_results answers by w xs next = numbered_results answers by w xs next (window_count w xs)

module _ (answers : List Tuple → List Value) (by : List ℕ) (w : WindowSpec) where
  abbrev numbered : List Tuple → ℕ → List Tuple
  numbered xs k = window_results answers by (start_of w k) (in_window w (start_of w k) xs)

  pub none_from : (xs : List Tuple) (a b : ℕ) → b ≤ a → numbered_results answers by w xs a b ≡ []
  none_from xs a b h = ap (λ n. flat_map (numbered xs) (range_with_len a n)) (let e : b - a ≡ 0 = omega arith in e)

  pub first_window : (xs : List Tuple) (a b : ℕ) → a < b → numbered_results answers by w xs a b ≡ numbered xs a ++ numbered_results answers by w xs (a + 1) b
  first_window xs a b h =
      ap (λ n. flat_map (numbered xs) (range_with_len a n)) (let e : b - a ≡ suc (b - (a + 1)) = omega arith in e)

  empty-window : (xs : List Tuple) (k : ℕ) → in_window w (start_of w k) xs ≡ [] → numbered xs k ≡ []
  empty-window xs k e = ap (window_results answers by (start_of w k)) e

  parts : (xs : List Tuple) (a b c : ℕ) → a ≤ b → b ≤ c → numbered_results answers by w xs a c ≡ numbered_results answers by w xs a b ++ numbered_results answers by w xs b c
  parts xs a b c ab bc =
      ap (λ n. flat_map (numbered xs) (range_with_len a n)) (let e : c - a ≡ (b - a) + (c - b) = omega arith in e)
      ∙ ap (flat_map (numbered xs)) (range_split a (b - a) (c - b))
      ∙ flat_map-append (numbered xs) (range_with_len a (b - a)) (range_with_len (a + (b - a)) (c - b))
      ∙ ap (λ k. numbered_results answers by w xs a b ++ flat_map (numbered xs) (range_with_len k (c - b))) (let e : a + (b - a) ≡ b = omega arith in e)

  -- before anything is gone over
  pub left_first : (xs : List Tuple) → left_results answers by w xs 0 ≡ aggregate_of answers by w xs
  left_first xs =
      ap (λ n. flat_map (numbered xs) (range_with_len 0 n)) (let e : window_count w xs - 0 ≡ window_count w xs = omega arith in e)
      ∙ sym (flat_map-map (λ s. window_results answers by s (in_window w s xs)) (start_of w) (numbers_to (window_count w xs)))

  -- no tuple is left
  pub left_last : (next : ℕ) → left_results answers by w [] next ≡ []
  left_last next = flat_map-nothing (numbered []) next (window_count w [] - next) (λ k lo hi. refl)

module _ (w : WindowSpec) (moves : 0 < w.advance) where
  module _ (answers : List Tuple → List Value) (by : List ℕ) where
    later-windows : (x : Tuple) (xs : List Tuple) (end : ℕ) → numbered_results answers by w (x ∷ xs) (started w x.time) end ≡ numbered_results answers by w xs (started w x.time) end
    later-windows x xs end =
        flat_map-range (numbered answers by w (x ∷ xs)) (numbered answers by w xs) (started w x.time) (end - (started w x.time))
        (λ k lo hi. ap (window_results answers by (start_of w k)) (not-yet w (start_of w k) x xs (starts_after w moves x.time k lo)))

    -- after the last window of a tuple
    after-by : (x : Tuple) (xs : List Tuple) (most : ℕ) (b : Bool) → nat_lt most x.time ≡ b
        → numbered_results answers by w xs (started w x.time) (started w (max x.time most)) ≡ numbered_results answers by w xs (started w x.time) (started w most)
    after-by x xs most true e =
        let less : most < x.time = grind (arith, tests) in
        let same : max x.time most ≡ x.time = omega (arith, less) in
        let same' = ap (started w) same in
        let first = none_from answers by w xs (started w x.time) (started w (max x.time most)) (omega (arith, same')) in
        let second = none_from answers by w xs (started w x.time) (started w most) (started_more w moves most x.time (omega (arith, less))) in
        first ∙ sym second
    after-by x xs most false e =
        let le : x.time ≤ most = grind (arith, tests) in
        ap (λ n. numbered_results answers by w xs (started w x.time) (started w n)) (let m : max x.time most ≡ most = omega (arith, le) in m)

    rest-after : (x : Tuple) (xs : List Tuple) → numbered_results answers by w (x ∷ xs) (started w x.time) (window_count w (x ∷ xs)) ≡ left_results answers by w xs (started w x.time)
    rest-after x xs = later-windows x xs (window_count w (x ∷ xs)) ∙ after-by x xs (max_by (λ x. x.time) xs) (nat_lt (max_by (λ x. x.time) xs) x.time) refl

    -- one tuple more
    pub left_step : (x : Tuple) (xs : List Tuple) (from next : ℕ) → TimesNotFalling x.time xs → next ≤ started w x.time
        → ((k : ℕ) → k < from → start_of w k + w.size ≤ x.time) → from ≤ started w x.time
        → left_results answers by w (x ∷ xs) next ≡ numbered_results answers by w (x ∷ xs) (max from next) (started w x.time) ++ left_results answers by w xs (started w x.time)
    left_step x xs from next up few ended le =
        let mid : ℕ = max from next in
        let end : ℕ = started w x.time in
        let last : end ≤ window_count w (x ∷ xs) = started_more w moves x.time (max x.time (max_by (λ x. x.time) xs)) (omega arith) in
        parts answers by w (x ∷ xs) next mid (window_count w (x ∷ xs)) (omega arith) (omega (arith, le, few, last))
        ∙ ap (λ l. l ++ numbered_results answers by w (x ∷ xs) mid (window_count w (x ∷ xs)))
        (flat_map-nothing (numbered answers by w (x ∷ xs)) next (mid - next)
        (λ k lo hi. empty-window answers by w (x ∷ xs) k (none-inside w (start_of w k) x.time (x ∷ xs) (ended k (omega (arith, lo, hi))) (omega arith, up))))
        ∙ parts answers by w (x ∷ xs) mid end (window_count w (x ∷ xs)) (omega (arith, le, few)) (omega (arith, last))
        ∙ ap (λ l. numbered_results answers by w (x ∷ xs) mid end ++ l) (rest-after x xs)

    -- the later tuples are in no window that is gone over
    pub begun_step : (x : Tuple) (xs : List Tuple) → TimesNotFalling x.time xs → AllByRecursion (λ y. started w x.time ≤ started w y.time) xs
    begun_step x xs up = all_weaker (λ y. x.time ≤ y.time) (λ y. started w x.time ≤ started w y.time) (λ y le. started_more w moves x.time y.time le) xs (all-later x.time xs up)

-- what is told of the groups is the results
module _ {M : Type 0} (none : M) (join : M → M → M) (one : Tuple → M) (told : M → List Value) (table : List Tuple → List Value) (tells : (xs : List Tuple) → told (joined_from join one none xs) ≡ table xs) where
  told-groups : (by : List ℕ) (start : ℕ) (xs : List Tuple) (gs : List (List Value))
      → told_results told start (map (λ h. (h, joined_from join one none (in_group by h xs))) gs) ≡ map (λ g. record { time = start; fields = g ++ table (in_group by g xs) }) gs
  told-groups by start xs [] = refl
  told-groups by start xs (g ∷ gs) =
      ap (λ l. record { time = start; fields = g ++ l } ∷ told_results told start (map (λ h. (h, joined_from join one none (in_group by h xs))) gs)) (tells (in_group by g xs))
      ∙ ap (λ l. record { time = start; fields = g ++ table (in_group by g xs) } ∷ l) (told-groups by start xs gs)

  pub told_window : (by : List ℕ) (start : ℕ) (xs : List Tuple) → told_results told start (keyed_from fields_cmp none join (group_of by) one [] xs) ≡ window_results table by start xs
  told_window by start xs =
      ap (told_results told start) (keyed-list fields_cmp fields_order fields_same none join (group_of by) one xs) ∙ told-groups by start xs (groups_of by xs)

pub stream_ticks : (xs : List Tuple) → IsStream xs → AllByRecursion (λ x. x.time < 2 ^ 40) xs
stream_ticks [] h = tt
stream_ticks (x ∷ []) h = (h, tt)
stream_ticks (x ∷ y ∷ rest) h = let later = stream_ticks (y ∷ rest) h.1 in ((let le = h.0 in let t = later.0 in omega (arith, le, t)), later)

-- one tuple more of a stream
module _ (w : WindowSpec) (window : IsWindow w) where
  -- the start after the last window of a tick
  pub next_small : (time : ℕ) → time < 2 ^ 40 → start_of w (started w time) < 2 ^ 41
  next_small time tick =
      let whole = div-mul-le_self (time + w.advance - w.phase) w.advance in
      let bounded = window.bounded in
      let covers = window.covers in
      let begins = window.begins in
      omega (arith, whole, bounded, covers, begins, tick)

  pub early_start : (time : ℕ) (xs : List Tuple) → TimesNotFalling time xs → (k : ℕ) → k < started w time → TimesNotFalling (start_of w k) xs
  early_start time xs up k lt = lower (start_of w k) time xs (starts_before w window.moves time k lt) up

-- all that is left of a list
pub rest_is : (xs : List Tuple) (i : ℕ) → take (length xs - i) (drop i xs) ≡ drop i xs
rest_is xs i = take_all (length xs - i) (drop i xs) (rw (length-drop i xs) (omega arith))
