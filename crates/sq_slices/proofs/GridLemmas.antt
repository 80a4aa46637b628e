-- From each tick there is a cut within its gap, and from each cut of a grid one of another within the pad.
use Rattle.std.proofs.Common.{◌≡◌, ℕ, ◌+◌, ◌-◌, ◌*◌, ◌/◌, ◌%◌, ◌<◌, ◌≤◌, Bool, true, false, cond, refl, ap, sym, ◌∙◌, arith, tests, inl, inr}
use Rattle.std.proofs.Math.Nat.{mod-lt, mod-eq_of_lt, mul-add-mod_self_right}
use Rattle.std.proofs.lemmas.Nat.{mod-mul-add, div-add-mod'}
use Rattle.std.proofs.lemmas.Bool.{cases_lt}
use Rattle.std.specs.Prelude.{◌==◌}
use Rattle.sq_words.proofs.Numbers.{eq_from}
use Rattle.sq_slices.specs.declared.Grid.{Grid}
use Rattle.sq_slices.specs.declared.Reach.{Reach}
use Rattle.sq_slices.specs.Grids.{IsGrid, may_end, gap, pad, moved, ahead_from}

-- what leaves the phase is a cut
lands : (left phase : ℕ) → left ≡ phase → (left == phase) ≡ true
lands left phase h = grind (arith, tests)

one-more : (q s p : ℕ) → (q + 1) * s + p ≡ q * s + s + p
one-more q s p = grind arith

times-once : (s r : ℕ) → 1 * s + r ≡ s + r
times-once s r = grind arith

-- the ticks after t up to the next that leaves p
gap-lands : (s p t : ℕ) → 0 < s → p < s → (t + (p + s - t % s) % s) % s ≡ p
gap-lands s p t some low =
    elim (cases_lt p (t % s)) [
      | inl late ↦ (
          let is : (p + s - t % s) % s ≡ p + s - t % s = mod-eq_of_lt (let below : p + s - t % s < s = omega (arith, late, some) in below) in
          let sum : t + (p + s - t % s) ≡ (t / s + 1) * s + p = omega (arith, whole, left, late, one-more (t / s) s p) in
          ap (λ g. (t + g) % s) is ∙ ap (λ n. n % s) sum ∙ mod-mul-add (t / s + 1) s p low)
      | inr soon ↦ (
          let split : p + s - t % s ≡ 1 * s + (p - t % s) = omega (arith, left, soon, times-once s (p - t % s)) in
          let is : (p + s - t % s) % s ≡ p - t % s = ap (λ n. n % s) split ∙ mod-mul-add 1 s (p - t % s) (let below : p - t % s < s = omega (arith, low) in below) in
          let sum : t + (p - t % s) ≡ t / s * s + p = omega (arith, whole, soon) in
          ap (λ g. (t + g) % s) is ∙ ap (λ n. n % s) sum ∙ mod-mul-add (t / s) s p low)
    ]
  where
    whole : t / s * s + t % s ≡ t
    whole = div-add-mod' t s

    left : t % s < s
    left = mod-lt t some

-- what is left by a number is left by any that leaves it by a multiple
left-of : (s h t : ℕ) → s % h ≡ 0 → t % h ≡ t % s % h
left-of s h t whole =
    let parts : t / s * s + t % s ≡ t = div-add-mod' t s in
    let steps : s / h * h + s % h ≡ s = div-add-mod' s h in
    let times : t / s * s ≡ t / s * (s / h) * h = product (t / s) (s / h) h s (omega (arith, steps, whole)) in
    ap (λ n. n % h) (sym parts) ∙ ap (λ n. (n + t % s) % h) times ∙ mul-add-mod_self_right (t / s * (s / h)) h (t % s)
  where
    product : (a b c s : ℕ) → b * c ≡ s → a * s ≡ a * b * c
    product a b c s e = grind arith

more-left : (s t more : ℕ) → (t + more) % s ≡ (t % s + more) % s
more-left s t more =
    let parts : t / s * s + t % s ≡ t = div-add-mod' t s in
    ap (λ n. n % s) (let sum : t + more ≡ t / s * s + (t % s + more) = omega (arith, parts) in sum) ∙ mul-add-mod_self_right (t / s) s (t % s + more)

pub gap-cuts : (g : Grid) → IsGrid g → (t : ℕ) → may_end g (t + gap g t) ≡ true
gap-cuts g grid t = lands ((t + gap g t) % g.step) g.phase (gap-lands g.step g.phase t grid.moves grid.begins)

pub gap-low : (g : Grid) → IsGrid g → (t : ℕ) → gap g t < g.step
gap-low g grid t = mod-lt (g.phase + g.step - t % g.step) grid.moves

pub moved-cut : (g : Grid) (more t : ℕ) → may_end g t ≡ true → may_end (moved g more) (t + more) ≡ true
moved-cut g more t cut =
    lands ((t + more) % g.step) ((g.phase + more) % g.step) (more-left g.step t more ∙ ap (λ n. (n + more) % g.step) (eq_from (t % g.step) g.phase cut))

pub moved-grid : (g : Grid) (more : ℕ) → IsGrid g → IsGrid (moved g more)
moved-grid g more grid = record { moves = grid.moves; begins = mod-lt (g.phase + more) grid.moves }

pub pad-covers : (g h : Grid) → IsGrid h → (t : ℕ) → may_end g t ≡ true → gap h t ≤ pad g h
pad-covers g h grid t cut = by (g.step % h.step == 0) refl
  where
    by : (b : Bool) → (g.step % h.step == 0) ≡ b → gap h t ≤ cond b (gap h g.phase) (h.step - 1)
    by true e =
        let same : t % h.step ≡ g.phase % h.step = left-of g.step h.step t (eq_from (g.step % h.step) 0 e) ∙ ap (λ n. n % h.step) (eq_from (t % g.step) g.phase cut) in
        let gaps : gap h t ≡ gap h g.phase = ap (λ r. (h.phase + h.step - r) % h.step) same in
        omega (arith, gaps)
    by false e = let low = gap-low h grid t in omega (arith, low)

-- from a cut of a grid on there is a cut of a reach far enough behind, and from there the reach's own ticks
abbrev pub end_from : ℕ → ℕ → Reach → ℕ
end_from t more r = t + more + gap r.cuts (t + more)

pub end-cut : (t more : ℕ) (r : Reach) → IsGrid r.cuts → may_end r.cuts (end_from t more r) ≡ true
end-cut t more r grid = gap-cuts r.cuts grid (t + more)

pub end-within : (g : Grid) (t more : ℕ) (r : Reach) → IsGrid r.cuts → may_end g t ≡ true → end_from t more r + r.ahead ≤ t + ahead_from g more r
end-within g t more r grid cut =
    let far = pad-covers (moved g more) r.cuts grid (t + more) (moved-cut g more t cut) in
    omega (arith, far)
