-- The steps of a concave graph: none grows by more than the one before it.
use Rattle.std.proofs.Common.{◌≡◌, ap, ℕ, ◌+◌, ◌-◌, ◌*◌, ◌/◌, ◌%◌, ◌<◌, ◌≤◌, [], ◌∷◌, true, false, nat_lt, inl, inr, refl, arith}
use Rattle.std.proofs.Math.Nat.{le_of_mul-le-mul_left, mul-le-mul_left}
use Rattle.std.proofs.lemmas.Bool.Decides.{nat_tests}
use Rattle.std.proofs.lemmas.Bool.{cases_lt}
use Rattle.sq_qos.specs.Graphs.{Points, scale, is_on_grid, first_x, last_x, rises, is_concave, is_no_steeper, scaled_value, loss_step}
use Rattle.sq_qos.proofs.Facts.{GraphFacts, le_from}
use Rattle.sq_qos.proofs.Slopes.{divides, slope, Line, Begins, begins, growth, grows}
use Rattle.sq_words.proofs.Bools.{and_true}

-- with s in place of the scale
less_steep : (s n m u v a b : ℕ) → 1 ≤ n → 1 ≤ m → n * u ≡ s → m * v ≡ s → b * n ≤ a * m → v * b ≤ u * a
less_steep s n m u v a b n_pos m_pos e f h =
    let pos : 0 < n * m = grind (arith, mul-le-mul_left) in
    let left : n * m * (v * b) ≡ s * (b * n) = rw (← f) (omega arith) in
    let right : n * m * (u * a) ≡ s * (a * m) = rw (← e) (omega arith) in
    let mid : s * (b * n) ≤ s * (a * m) = mul-le-mul_left s h in
    le_of_mul-le-mul_left (omega arith) pos

slope_falls : (p q r : ℕ × ℕ) → Line p q → Line q r → is_no_steeper p q r ≡ true → slope q r ≤ slope p q
slope_falls p q r first second test =
    let a = first.apart in
    let b = first.from in
    let c = first.to in
    let d = second.apart in
    let e = second.to in
    let f = first.wide in
    let g = second.wide in
    let h : (r.1 - q.1) * (q.0 - p.0) ≤ (q.1 - p.1) * (r.0 - q.0) = le_from _ _ test in
    let n_pos : 1 ≤ (q.0 - p.0) / 50 = omega arith in
    let m_pos : 1 ≤ (r.0 - q.0) / 50 = omega arith in
    let n_few : (q.0 - p.0) / 50 ≤ 20 = omega arith in
    let m_few : (r.0 - q.0) / 50 ≤ 20 = omega arith in
    let n_is : q.0 - p.0 ≡ 50 * ((q.0 - p.0) / 50) = omega arith in
    let m_is : r.0 - q.0 ≡ 50 * ((r.0 - q.0) / 50) = omega arith in
    less_steep scale ((q.0 - p.0) / 50) ((r.0 - q.0) / 50) (scale / ((q.0 - p.0) / 50)) (scale / ((r.0 - q.0) / 50)) (q.1 - p.1) (r.1 - q.1)
    n_pos m_pos (divides ((q.0 - p.0) / 50) n_pos n_few) (divides ((r.0 - q.0) / 50) m_pos m_few)
    (fifties (q.0 - p.0) (r.0 - q.0) ((q.0 - p.0) / 50) ((r.0 - q.0) / 50) (q.1 - p.1) (r.1 - q.1) n_is m_is h)
  where
    fifties : (w z n m a b : ℕ) → w ≡ 50 * n → z ≡ 50 * m → b * w ≤ a * z → b * n ≤ a * m
    fifties w z n m a b e f h = let k : b * (50 * n) ≤ a * (50 * m) = rw (e, f) at h in omega arith

growth_below : (p q : ℕ × ℕ) (rest : Points) (x : ℕ) → is_on_grid 0 (p ∷ q ∷ rest) ≡ true → rises (p ∷ q ∷ rest) ≡ true → is_concave (p ∷ q ∷ rest) ≡ true → growth (p ∷ q ∷ rest) x ≤ slope p q
growth_below p q [] x grid rise concave =
    elim (cases_lt x q.0) [
      | inl within ↦ (let test : nat_lt x q.0 ≡ true = grind (arith, nat_tests) in rw test (omega arith))
      | inr after ↦ (let test : nat_lt x q.0 ≡ false = grind (arith, nat_tests) in rw test (omega arith))
    ]
growth_below p q (r ∷ rest) x grid rise concave =
    let b : Begins p q (r ∷ rest) = begins p q (r ∷ rest) grid rise in
    let c : Begins q r rest = begins q r rest b.grid b.rise in
    let bent = and_true (is_no_steeper p q r) (is_concave (q ∷ r ∷ rest)) concave in
    let falls = slope_falls p q r b.line c.line bent.0 in
    let more = growth_below q r rest x b.grid b.rise bent.1 in
    elim (cases_lt x q.0) [
      | inl within ↦ (let test : nat_lt x q.0 ≡ true = grind (arith, nat_tests) in rw test (omega arith))
      | inr after ↦ (let test : nat_lt x q.0 ≡ false = grind (arith, nat_tests) in rw test (omega (arith, falls, more)))
    ]

after_line : (p q : ℕ × ℕ) (rest : Points) (x : ℕ) → is_on_grid 0 (p ∷ q ∷ rest) ≡ true → rises (p ∷ q ∷ rest) ≡ true → is_concave (p ∷ q ∷ rest) ≡ true → growth (q ∷ rest) x ≤ slope p q
after_line p q [] x grid rise concave = omega arith
after_line p q (r ∷ rest) x grid rise concave =
    let b : Begins p q (r ∷ rest) = begins p q (r ∷ rest) grid rise in
    let c : Begins q r rest = begins q r rest b.grid b.rise in
    let bent = and_true (is_no_steeper p q r) (is_concave (q ∷ r ∷ rest)) concave in
    let falls = slope_falls p q r b.line c.line bent.0 in
    let more = growth_below q r rest x b.grid b.rise bent.1 in
    omega (arith, falls, more)

concave_rest : (p q : ℕ × ℕ) (rest : Points) → is_concave (p ∷ q ∷ rest) ≡ true → is_concave (q ∷ rest) ≡ true
concave_rest p q [] h = refl
concave_rest p q (r ∷ rest) h = (and_true (is_no_steeper p q r) (is_concave (q ∷ r ∷ rest)) h).1

growth_falls : (ps : Points) (x : ℕ) → is_on_grid 0 ps ≡ true → rises ps ≡ true → is_concave ps ≡ true → growth ps (x + 50) ≤ growth ps x
growth_falls [] x grid rise concave = omega arith
growth_falls (p ∷ []) x grid rise concave = omega arith
growth_falls (p ∷ q ∷ rest) x grid rise concave =
    let b : Begins p q rest = begins p q rest grid rise in
    let later = growth_falls (q ∷ rest) x b.grid b.rise (concave_rest p q rest concave) in
    let below = after_line p q rest (x + 50) grid rise concave in
    elim (cases_lt x q.0) [
      | inl within ↦ (
          let test : nat_lt x q.0 ≡ true = grind (arith, nat_tests) in
          elim (cases_lt (x + 50) q.0) [
            | inl inside ↦ (let next : nat_lt (x + 50) q.0 ≡ true = grind (arith, nat_tests) in rw (test, next) (omega arith))
            | inr past ↦ (let next : nat_lt (x + 50) q.0 ≡ false = grind (arith, nat_tests) in rw (test, next) below)
          ])
      | inr after ↦ (
          let test : nat_lt x q.0 ≡ false = grind (arith, nat_tests) in
          let next : nat_lt (x + 50) q.0 ≡ false = (let h : q.0 ≤ x + 50 = omega arith in grind (arith, nat_tests)) in
          rw (test, next) later)
    ]

-- the loss of a step is the weight times the growth that it undoes
pub step_grows : (g : Points) (k : ℕ) → GraphFacts g → 1 ≤ k → k ≤ 20 → scaled_value g (1000 - 50 * (k - 1)) ≡ scaled_value g (1000 - 50 * k) + growth g (1000 - 50 * k)
step_grows g k facts low high =
    let x : 1000 - 50 * (k - 1) ≡ 1000 - 50 * k + 50 = omega arith in
    let a : first_x g ≤ 1000 - 50 * k = (let e = facts.first in omega arith) in
    let b : (1000 - 50 * k) % 50 ≡ 0 = fifty k high in
    let c : 1000 - 50 * k + 50 ≤ last_x g = (let e = facts.last in omega arith) in
    rw x (grows g (1000 - 50 * k) facts.grid facts.rise a b c)
  where
    fifty : (k : ℕ) → k ≤ 20 → (1000 - 50 * k) % 50 ≡ 0
    fifty k h = let e : 1000 - 50 * k ≡ 50 * (20 - k) = omega arith in rw e (omega arith)

pub loss_is : (g : Points) (weight k : ℕ) → GraphFacts g → 1 ≤ k → k ≤ 20 → loss_step g weight k ≡ weight * growth g (1000 - 50 * k)
loss_is g weight k facts low high =
    ap (λ d. weight * d) (less (scaled_value g (1000 - 50 * (k - 1))) (scaled_value g (1000 - 50 * k)) (growth g (1000 - 50 * k)) (step_grows g k facts low high))
  where
    less : (a b c : ℕ) → a ≡ b + c → a - b ≡ c
    less a b c e = omega arith

-- losses don't fall
pub losses_rise : (g : Points) (weight k : ℕ) → GraphFacts g → 1 ≤ k → k + 1 ≤ 20 → loss_step g weight k ≤ loss_step g weight (k + 1)
losses_rise g weight k facts low high =
    let k_high : k ≤ 20 = omega arith in
    let next_low : 1 ≤ k + 1 = omega arith in
    let x : 1000 - 50 * k ≡ 1000 - 50 * (k + 1) + 50 = omega arith in
    let falls : growth g (1000 - 50 * k) ≤ growth g (1000 - 50 * (k + 1)) = rw x (growth_falls g (1000 - 50 * (k + 1)) facts.grid facts.rise facts.concave) in
    rw (loss_is g weight k facts low k_high, loss_is g weight (k + 1) facts next_low high) (mul-le-mul_left weight falls)
