-- The starts of windows.
use Rattle.std.proofs.Common.{◌≡◌, ℕ, ◌+◌, ◌-◌, ◌*◌, ◌/◌, ◌%◌, ◌<◌, ◌≤◌, Bool, true, false, refl, ap, ◌∙◌, arith, tests}
use Rattle.std.proofs.Math.Nat.{div-mul-le_self, lt-div-mul-add}
use Rattle.std.proofs.lemmas.Nat.{mod-mul-add, div-add-mod'}
use Rattle.std.specs.Prelude.{◌==◌, ◌&&◌, nat_le}
use Rattle.sq_aggfn.specs.declared.WindowSpec.{WindowSpec}
use Rattle.sq_aggfn.specs.Windows.{start_of, started, is_start}

-- windows start at the phase and then an advance apart
under : (k q a t p : ℕ) → k < q → q * a ≤ t + a - p → 0 < a → k * a + p ≤ t
under k q a t p h e some = above (grind arith) e
  where
    above : k * a + a ≤ q * a → q * a ≤ t + a - p → k * a + p ≤ t
    above le e = omega (arith, le, e, some)

module _ (w : WindowSpec) (moves : 0 < w.advance) where
  -- the windows that started at or before a tick are those below their number
  pub starts_before : (t k : ℕ) → k < started w t → start_of w k ≤ t
  starts_before t k h = under k (started w t) w.advance t w.phase h (div-mul-le_self (t + w.advance - w.phase) w.advance) moves

  pub starts_after : (t k : ℕ) → started w t ≤ k → t < start_of w k
  starts_after t k h = over k (started w t) w.advance t w.phase h (lt-div-mul-add moves)
    where
      over : (k q a t p : ℕ) → q ≤ k → t + a - p < q * a + a → t < k * a + p
      over k q a t p h e = below (grind arith) e
        where
          below : q * a ≤ k * a → t + a - p < q * a + a → t < k * a + p
          below le e = omega (arith, le, e)

  -- a later tick has as many or more
  pub started_more : (a b : ℕ) → a ≤ b → started w a ≤ started w b
  started_more a b h = by (nat_le (started w a) (started w b)) refl
    where
      by : (c : Bool) → nat_le (started w a) (started w b) ≡ c → started w a ≤ started w b
      by true e = grind (arith, tests)
      by false e =
          let less : started w b < started w a = grind (arith, tests) in
          let early = starts_before a (started w b) less in
          let late = starts_after b (started w b) (omega arith) in
          omega (arith, h, early, late)

  -- the starts rise
  pub starts_rise : (j k : ℕ) → j < k → start_of w j < start_of w k
  starts_rise j k h = grind arith

  -- windows start at their starts alone
  pub start_starts : (k : ℕ) → is_start w (start_of w k) ≡ true
  start_starts k =
      let after : nat_le w.phase (start_of w k) ≡ true = later (k * w.advance) w.phase in
      let whole : (start_of w k - w.phase) % w.advance ≡ 0 = ap (λ n. n % w.advance) (let z : k * w.advance + w.phase - w.phase ≡ k * w.advance + 0 = omega arith in z) ∙ mod-mul-add k w.advance 0 moves in
      ap (λ b. b && (start_of w k - w.phase) % w.advance == 0) after ∙ ap (λ n. n == 0) whole
    where
      later : (a p : ℕ) → nat_le p (a + p) ≡ true
      later a p = grind (arith, tests)

  pub start_numbered : (t : ℕ) → is_start w t ≡ true → start_of w ((t - w.phase) / w.advance) ≡ t
  start_numbered t e =
      let both = parts (nat_le w.phase t) ((t - w.phase) % w.advance == 0) e in
      let after = low w.phase t both.0 in
      let none = zero-is ((t - w.phase) % w.advance) both.1 in
      let sum : (t - w.phase) / w.advance * w.advance + (t - w.phase) % w.advance ≡ t - w.phase = div-add-mod' (t - w.phase) w.advance in
      omega (arith, sum, none, after)
    where
      parts : (b c : Bool) → (b && c) ≡ true → (b ≡ true) × (c ≡ true)
      parts true c h = (refl, h)
      parts false c h = absurd (cc h)

      low : (p t : ℕ) → nat_le p t ≡ true → p ≤ t
      low p t h = grind (arith, tests)

      zero-is : (n : ℕ) → (n == 0) ≡ true → n ≡ 0
      zero-is n h = grind (arith, tests)
