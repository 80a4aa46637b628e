-- A graph's value at a multiple of 50, times the scale, is whole; and so are the losses.
use Rattle.std.proofs.Common.{◌≡◌, ◌∙◌, ap, ℕ, ◌+◌, ◌-◌, ◌*◌, ◌/◌, ◌%◌, ◌<◌, ◌≤◌, List, [], ◌∷◌, true, false, nat_le, inl, inr, refl, arith, get_or}
use Rattle.std.proofs.lemmas.Bool.Decides.{nat_tests}
use Rattle.std.proofs.lemmas.Bool.{cases_lt}
use Rattle.sq_qos.specs.Graphs.{Points, Ratio, scale, value_at, on_line, scaled_value, loss_step, is_on_grid, first_x, rises, IsLossBetween}
use Rattle.sq_qos.proofs.Facts.{GraphFacts}
use Rattle.sq_qos.proofs.Slopes.{divides, Line, Begins, begins, growth, line_scaled}
use Rattle.sq_qos.proofs.Falling.{step_grows, loss_is}

-- with s in place of the scale
line_product : (s n u y dy i : ℕ) → n * u ≡ s → (s * y + i * (u * dy)) * (50 * n) ≡ s * (y * (50 * n) + dy * (50 * i))
line_product s n u y dy i e = rw (← e) (omega arith)

line_whole : (p q : ℕ × ℕ) (x : ℕ) → Line p q → p.0 ≤ x → x % 50 ≡ 0 → scale * (on_line p q x).num / (on_line p q x).den * (on_line p q x).den ≡ scale * (on_line p q x).num
line_whole p q x line low grid =
    let a = line.apart in
    let b = line.from in
    let c = line.to in
    let d = line.wide in
    let n_low : 1 ≤ (q.0 - p.0) / 50 = omega arith in
    let n_high : (q.0 - p.0) / 50 ≤ 20 = omega arith in
    ap (λ v. v * (q.0 - p.0)) (line_scaled p q x line low grid)
    ∙ fifties (q.0 - p.0) (x - p.0) ((q.0 - p.0) / 50) ((x - p.0) / 50) (scale / ((q.0 - p.0) / 50)) p.1 (q.1 - p.1) (omega arith) (omega arith) (divides ((q.0 - p.0) / 50) n_low n_high)
  where
    fifties : (w z n i u y dy : ℕ) → w ≡ 50 * n → z ≡ 50 * i → n * u ≡ scale → (scale * y + i * (u * dy)) * w ≡ scale * (y * w + dy * z)
    fifties w z n i u y dy e f g = rw (e, f) (line_product scale n u y dy i g)

pub value_whole : (ps : Points) (x : ℕ) → is_on_grid 0 ps ≡ true → rises ps ≡ true → first_x ps ≤ x → x % 50 ≡ 0 → scaled_value ps x * (value_at ps x).den ≡ scale * (value_at ps x).num
value_whole [] x grid rise low fifty = refl
value_whole (p ∷ []) x grid rise low fifty = one (scale * p.1)
  where
    one : (k : ℕ) → k / 1 * 1 ≡ k
    one k = omega arith
value_whole (p ∷ q ∷ rest) x grid rise low fifty =
    let b : Begins p q rest = begins p q rest grid rise in
    elim (cases_lt q.0 x) [
      | inl above ↦ (
          let test : nat_le x q.0 ≡ false = grind (arith, nat_tests) in
          let after : q.0 ≤ x = omega arith in
          rw test (value_whole (q ∷ rest) x b.grid b.rise after fifty))
      | inr within ↦ (
          let test : nat_le x q.0 ≡ true = grind (arith, nat_tests) in
          rw test (line_whole p q x b.line low fifty))
    ]

loss_whole : (g : Points) (weight k : ℕ) → GraphFacts g → 1 ≤ k → k ≤ 20 → IsLossBetween (value_at g (1000 - 50 * (k - 1))) (value_at g (1000 - 50 * k)) weight (loss_step g weight k)
loss_whole g weight k facts low high =
    let first = facts.first in
    let a : first_x g ≤ 1000 - 50 * (k - 1) = omega arith in
    let b : first_x g ≤ 1000 - 50 * k = omega arith in
    let above = value_whole g (1000 - 50 * (k - 1)) facts.grid facts.rise a (fifty (k - 1) (omega arith)) in
    let below = value_whole g (1000 - 50 * k) facts.grid facts.rise b (fifty k high) in
    rw (loss_is g weight k facts low high)
    (between (value_at g (1000 - 50 * (k - 1))) (value_at g (1000 - 50 * k)) scale weight (scaled_value g (1000 - 50 * (k - 1))) (scaled_value g (1000 - 50 * k)) (growth g (1000 - 50 * k)) above below (step_grows g k facts low high))
  where
    fifty : (k : ℕ) → k ≤ 20 → (1000 - 50 * k) % 50 ≡ 0
    fifty k h = let e : 1000 - 50 * k ≡ 50 * (20 - k) = omega arith in rw e (omega arith)

    between : (u v : Ratio) (s w a b d : ℕ) → a * u.den ≡ s * u.num → b * v.den ≡ s * v.num → a ≡ b + d → w * d * (u.den * v.den) + w * s * (v.num * u.den) ≡ w * s * (u.num * v.den)
    between u v s w a b d e f g =
        let from : w * s * (u.num * v.den) ≡ w * v.den * (a * u.den) = rw e (omega arith) in
        let to : w * s * (v.num * u.den) ≡ w * u.den * (b * v.den) = rw f (omega arith) in
        rw (from, to, g) (omega arith)

pub losses_whole : (g : Points) (weight : ℕ) (xs : List ℕ) → GraphFacts g → ((k : ℕ) → k < 20 → get_or xs k 0 ≡ loss_step g weight (k + 1)) → (k : ℕ) → 1 ≤ k → k ≤ 20 → IsLossBetween (value_at g (1000 - 50 * (k - 1))) (value_at g (1000 - 50 * k)) weight (get_or xs (k - 1) 0)
losses_whole g weight xs facts each k low high =
    let here : k - 1 < 20 = omega arith in
    let same : k - 1 + 1 ≡ k = omega arith in
    rw (each (k - 1) here, same) (loss_whole g weight k facts low high)
