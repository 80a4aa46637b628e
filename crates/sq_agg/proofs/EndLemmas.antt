-- The first end of an open window, and the panes that are held since.
use Rattle.std.proofs.Common.{◌≡◌, ℕ, zero, suc, ◌+◌, ◌*◌, ◌<◌, ◌≤◌, Bool, true, false, cond, List, [], ◌∷◌, refl, ap, sym, ◌∙◌, subst, arith, tests}
use Rattle.std.proofs.Math.Nat.{div-mul-le_self, lt-div-mul-add, mul-le-mul_right, zero-mul, suc-mul}
use Rattle.std.specs.Prelude.{nat_le, nat_lt, if◌then◌else◌, Option}
use Rattle.sq_value.specs.declared.Value.{Value}
use Rattle.sq_aggfn.specs.declared.WindowSpec.{WindowSpec}
use Rattle.sq_aggfn.specs.Windows.{start_of, IsWindow}
use Rattle.sq_aggfn.proofs.StartLemmas.{starts_rise}
use Rattle.sq_pane.specs.Panes.{Key, shift_of, pane_of, from_pane}
use Rattle.sq_agg.specs.Positions.{open_at}
use Rattle.sq_agg.specs.Slots.{Folding}
use Rattle.sq_agg.specs.Holdings.{Bounds, IsFirstEnd, KeepsNear, MarksWait, due_before, panes_after, told_open}
use Rattle.sq_agg.proofs.EndedLemmas.{nothing_ends}
use Rattle.sq_agg.proofs.FeedLemmas.{after-key, closing_panes}

-- the panes before a number went, none of which begins at a tick or later
abbrev pub Forgets : {M : Type 0} → WindowSpec → ℕ → ℕ → List (Key × M) → List (Key × M) → Type 0
Forgets w width mid old new = (n : ℕ) × (n * width ≤ mid + shift_of w width) × (new ≡ from_pane n old)

all-stay : {M : Type 0} (es : List (Key × M)) → from_pane 0 es ≡ es
all-stay [] = refl
all-stay (e ∷ es) = (let le : nat_le 0 e.0.0 ≡ true = grind (arith, tests) in ap (λ b. cond b (e ∷ from_pane 0 es) (from_pane 0 es)) le) ∙ ap (λ l. e ∷ l) (all-stay es)

pub forgets_if : {M : Type 0} (w : WindowSpec) (width mid : ℕ) → 1 ≤ width → (is : Bool) (old new : List (Key × M)) → new ≡ (if is then from_pane (pane_of w width mid) old else old) → Forgets w width mid old new
forgets_if w width mid wide true old new e = (pane_of w width mid, div-mul-le_self (mid + shift_of w width) width, e)
forgets_if w width mid wide false old new e = (0, omega arith, e ∙ sym (all-stay old))

-- windows that start later end later
module _ (w : WindowSpec) (moves : 1 ≤ w.advance) (begins : w.phase < w.advance) where
  ends-rise : (j k : ℕ) → j ≤ k → start_of w j ≤ start_of w k
  ends-rise j k le = by (nat_lt j k) refl
    where
      by : (b : Bool) → nat_lt j k ≡ b → start_of w j ≤ start_of w k
      by true e = (let lt : j < k = grind (arith, tests) in let r = starts_rise w moves j k lt in omega (arith, r))
      by false e = (let same : j ≡ k = grind (arith, tests) in subst (λ (n : ℕ). start_of w j ≤ start_of w n) same (omega arith))

  -- no window that is open ends before the first end
  pub none_ends_before : (now ends : ℕ) → IsFirstEnd w now ends → (k : ℕ) → now < start_of w k + w.size → ends ≤ start_of w k + w.size
  none_ends_before now ends first k still = by (nat_lt k first.window) refl
    where
      by : (b : Bool) → nat_lt k first.window ≡ b → ends ≤ start_of w k + w.size
      by true e = absurd (let lt : k < first.window = grind (arith, tests) in let over = first.over k lt in omega (arith, over, still))
      by false e =
          let le : first.window ≤ k = grind (arith, tests) in
          let r = ends-rise first.window k le in
          let is = first.is in
          omega (arith, r, is)

  -- it is near a time: less than an advance behind each bound that the time is a size before
  first_end_below : (now ends most : ℕ) → IsFirstEnd w now ends → 1 ≤ most → now < most + w.size → ends < most + (w.advance + w.size)
  first_end_below now ends most first some low = by first.window first.is first.over
    where
      by : (n : ℕ) → ends ≡ start_of w n + w.size → ((k : ℕ) → k < n → start_of w k + w.size ≤ now) → ends < most + (w.advance + w.size)
      by zero is over = (let none : 0 * w.advance ≡ 0 = zero-mul w.advance in omega (arith, is, none, some, begins))
      by (suc n) is over =
          let before = over n (omega arith) in
          let step : suc n * w.advance ≡ n * w.advance + w.advance = suc-mul n w.advance in
          omega (arith, is, before, step, low)

  -- the first end doesn't move while it isn't reached
  first_end_stays : (now time ends next : ℕ) → time < ends → IsFirstEnd w now ends → IsFirstEnd w time next → next ≤ ends
  first_end_stays now time ends next early first after =
      let is = first.is in
      let r = none_ends_before time next after first.window (omega (arith, is, early)) in
      omega (arith, is, r)

  module _ {M : Type 0} (width : ℕ) (wide : 1 ≤ width) where
    nearer : (ends next : ℕ) → next ≤ ends → (es : List (Key × M)) → KeepsNear w width ends es → KeepsNear w width next es
    nearer ends next le [] all = tt
    nearer ends next le (e ∷ es) all = ((let h = all.0 in omega (arith, h, le)), nearer ends next le es all.1)

    left-near : (next n : ℕ) → next + shift_of w width < n * width + width + (w.advance + w.size) → (es : List (Key × M)) → KeepsNear w width next (from_pane n es)
    left-near next n low [] = tt
    left-near next n low (e ∷ es) = by (nat_le n e.0.0) refl (left-near next n low es)
      where
        by : (b : Bool) → nat_le n e.0.0 ≡ b → KeepsNear w width next (from_pane n es) → KeepsNear w width next (cond b (e ∷ from_pane n es) (from_pane n es))
        by true q more =
            let le : n ≤ e.0.0 = grind (arith, tests) in
            let far : n * width ≤ e.0.0 * width = mul-le-mul_right width le in
            (omega (arith, low, far), more)
        by false q more = more

    -- what is left once the windows before a time have ended
    pub near_left : (now time ends next : ℕ) → IsFirstEnd w now ends → IsFirstEnd w time next → (es : List (Key × M)) → KeepsNear w width ends es
        → KeepsNear w width next (if nat_le ends time then from_pane (pane_of w width (open_at w.size time)) es else es)
    near_left now time ends next first after es all = by (nat_le ends time) refl
      where
        by : (b : Bool) → nat_le ends time ≡ b → KeepsNear w width next (if b then from_pane (pane_of w width (open_at w.size time)) es else es)
        by true q =
            let n : ℕ = pane_of w width (open_at w.size time) in
            let lt : open_at w.size time + shift_of w width < n * width + width = lt-div-mul-add wide in
            let low = first_end_below time next (open_at w.size time + 1) after (omega arith) (omega arith) in
            left-near next n (omega (arith, lt, low)) es
        by false q = nearer ends next (first_end_stays now time ends next (let lt : time < ends = grind (arith, tests) in lt) first after) es all

    -- and once a tuple of that time was added
    pub near_added : (made : M → Type 0) (number : M → ℕ) (f : Folding M) (time next : ℕ) → IsFirstEnd w time next → (body : Option (List Value)) (es : List (Key × M)) → KeepsNear w width next es
        → KeepsNear w width next (panes_after f w width time body es)
    near_added made number f time next after body es all =
        let lt : time + shift_of w width < pane_of w width time * width + width = lt-div-mul-add wide in
        let low = first_end_below time next (time + 1) after (omega arith) (omega arith) in
        after-key made number f w width 0 (λ k. next + shift_of w width < k.0 * width + (width + w.advance + w.size)) time body es (λ fields e. omega (arith, low, lt)) all

-- before the first end the marks alone are told
pub only_marks : {M : Type 0} (f : Folding M) (w : WindowSpec) → IsWindow w → (width now ends time mid : ℕ) (b : Bounds) (es : List (Key × M)) → IsFirstEnd w now ends → now ≤ time → time < ends → mid ≡ open_at w.size time
    → MarksWait w.size now b.waiting → told_open f w width now mid b es ≡ due_before f.told mid b.waiting []
only_marks f w sound width now ends time mid b es first later early is waits =
    let moves = sound.moves in
    let covers = sound.covers in
    closing_panes f w (omega (arith, moves, covers)) width now mid b es [] (omega (arith, later, is)) waits tt
    (λ t lo hi. nothing_ends f.none f.join w moves width b es now ends time (none_ends_before w moves sound.begins now ends first) early t lo (subst (λ (m : ℕ). t < m) is hi))
