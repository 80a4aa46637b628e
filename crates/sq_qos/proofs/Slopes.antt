-- A graph's value, times the scale, grows on each step of 50 by a whole number, which is the slope of its line.
use Rattle.std.proofs.Common.{◌≡◌, ◌∙◌, sym, ap, ℕ, zero, suc, ◌+◌, ◌-◌, ◌*◌, ◌/◌, ◌%◌, ◌<◌, ◌≤◌, [], ◌∷◌, Bool, true, false, ◌&&◌, nat_le, nat_lt, ◌==◌, if◌then◌else◌, inl, inr, refl, arith}
use Rattle.std.proofs.Math.Nat.{mul-div_cancel_left}
use Rattle.std.proofs.lemmas.Bool.Decides.{nat_tests}
use Rattle.std.proofs.lemmas.Bool.{cases_lt}
use Rattle.sq_qos.specs.Graphs.{Points, scale, on_line, scaled_value, is_on_grid, first_x, last_x, rises}
use Rattle.sq_qos.proofs.Facts.{le_from, OnGrid, on_grid}
use Rattle.sq_words.proofs.Bools.{and_true}
use Rattle.sq_words.proofs.Numbers.{eq_from}

-- whether each number from 1 to n divides the scale
abbrev divide_to : ℕ → Bool
divide_to zero = true
divide_to (suc n) = ((suc n * (scale / suc n)) == scale) && divide_to n

all_divide : divide_to 20 ≡ true
all_divide = refl

divides_at : (m n : ℕ) → divide_to m ≡ true → 1 ≤ n → n ≤ m → n * (scale / n) ≡ scale
divides_at zero n all low high = absurd (omega arith)
divides_at (suc m) n all low high =
    let parts : (((suc m * (scale / suc m)) == scale) ≡ true) × (divide_to m ≡ true) = and_true _ _ all in
    elim (cases_lt m n) [
      | inl above ↦ (let same : n ≡ suc m = omega arith in rw same (eq_from _ _ parts.0))
      | inr within ↦ divides_at m n parts.1 low within
    ]

pub divides : (n : ℕ) → 1 ≤ n → n ≤ 20 → n * (scale / n) ≡ scale
divides n low high = divides_at 20 n all_divide low high

-- what the value on a line, times the scale, grows by on each step of 50
abbrev pub slope : ℕ × ℕ → ℕ × ℕ → ℕ
slope p q = scale / ((q.0 - p.0) / 50) * (q.1 - p.1)

-- with s in place of the scale
line_sum : (s n u y dy i : ℕ) → n * u ≡ s → s * (y * (50 * n) + dy * (50 * i)) ≡ (50 * n) * (s * y + i * (u * dy))
line_sum s n u y dy i e = rw (← e) (omega arith)

pub on_line_scaled : (p q : ℕ × ℕ) (n i x : ℕ) → 1 ≤ n → n ≤ 20 → q.0 ≡ p.0 + 50 * n → x ≡ p.0 + 50 * i → scale * (on_line p q x).num / (on_line p q x).den ≡ scale * p.1 + i * (scale / n * (q.1 - p.1))
on_line_scaled p q n i x low high width at =
    let e : q.0 - p.0 ≡ 50 * n = omega arith in
    let f : x - p.0 ≡ 50 * i = omega arith in
    let wide : 0 < 50 * n = omega arith in
    rw (e, f, line_sum scale n (scale / n) p.1 (q.1 - p.1) i (divides n low high)) (mul-div_cancel_left (scale * p.1 + i * (scale / n * (q.1 - p.1))) wide)

-- the same for points of the grid
pub record Line (p q : ℕ × ℕ) : Type 0 where
  pub from : p.0 % 50 ≡ 0
  pub to : q.0 % 50 ≡ 0
  pub apart : p.0 < q.0
  pub wide : q.0 ≤ 1000
  pub rise : p.1 ≤ q.1

pub line_scaled : (p q : ℕ × ℕ) (x : ℕ) → Line p q → p.0 ≤ x → x % 50 ≡ 0 → scale * (on_line p q x).num / (on_line p q x).den ≡ scale * p.1 + (x - p.0) / 50 * slope p q
line_scaled p q x line low grid =
    on_line_scaled p q ((q.0 - p.0) / 50) ((x - p.0) / 50) x
    (let a = line.apart in let b = line.from in let c = line.to in omega arith)
    (let a = line.wide in omega arith)
    (let a = line.apart in let b = line.from in let c = line.to in omega arith)
    (let b = line.from in omega arith)

-- a whole line gives the y of its end
pub line_end : (p q : ℕ × ℕ) → Line p q → scale * (on_line p q q.0).num / (on_line p q q.0).den ≡ scale * q.1
line_end p q line =
    let a = line.apart in
    let b = line.from in
    let c = line.to in
    let d = line.rise in
    let n : ℕ = (q.0 - p.0) / 50 in
    let low : 1 ≤ (q.0 - p.0) / 50 = omega arith in
    let high : (q.0 - p.0) / 50 ≤ 20 = let w = line.wide in omega arith in
    let e : (q.0 - p.0) / 50 * (scale / ((q.0 - p.0) / 50)) ≡ scale = divides ((q.0 - p.0) / 50) low high in
    let before : p.0 ≤ q.0 = omega arith in
    let here = line_scaled p q q.0 line before c in
    here ∙ whole scale ((q.0 - p.0) / 50) (scale / ((q.0 - p.0) / 50)) p.1 q.1 d e
  where
    grown : (s n u y k : ℕ) → n * u ≡ s → s * y + n * (u * k) ≡ s * (y + k)
    grown s n u y k e = rw (← e) (omega arith)

    whole : (s n u y z : ℕ) → y ≤ z → n * u ≡ s → s * y + n * (u * (z - y)) ≡ s * z
    whole s n u y z h e =
        let f : y + (z - y) ≡ z = omega arith in
        grown s n u y (z - y) e ∙ ap (λ w. s * w) f

-- a line at its start
line_start : (p q : ℕ × ℕ) → Line p q → scale * (on_line p q p.0).num / (on_line p q p.0).den ≡ scale * p.1
line_start p q line =
    let b = line.from in
    line_scaled p q p.0 line (omega arith) b ∙ nothing (slope p q) (scale * p.1)
  where
    nothing : (k s : ℕ) → s + (p.0 - p.0) / 50 * k ≡ s
    nothing k s = let e : (p.0 - p.0) / 50 ≡ 0 = omega arith in rw e (omega arith)

-- the first line of a graph, and the rest
pub record Begins (p q : ℕ × ℕ) (rest : Points) : Type 0 where
  pub line : Line p q
  pub grid : is_on_grid 0 (q ∷ rest) ≡ true
  pub rise : rises (q ∷ rest) ≡ true

looser_one : (least less : ℕ) (ps : Points) → less ≤ least → is_on_grid least ps ≡ true → is_on_grid less ps ≡ true
looser_one least less [] h g = refl
looser_one least less (p ∷ ps) h g =
    let k : OnGrid least p ps = on_grid least p ps g in
    let from : nat_le less p.0 ≡ true = (let a = k.from in grind (arith, nat_tests)) in
    let before : nat_le least p.0 ≡ true = (let a = k.from in grind (arith, nat_tests)) in
    rw from (rw before at g)

pub begins : (p q : ℕ × ℕ) (rest : Points) → is_on_grid 0 (p ∷ q ∷ rest) ≡ true → rises (p ∷ q ∷ rest) ≡ true → Begins p q rest
begins p q rest grid rise =
    let a : OnGrid 0 p (q ∷ rest) = on_grid 0 p (q ∷ rest) grid in
    let b : OnGrid (p.0 + 1) q rest = on_grid (p.0 + 1) q rest a.rest in
    let r = and_true (nat_le p.1 q.1) (rises (q ∷ rest)) rise in
    record {
      line = record {
        from = a.fifty;
        to = b.fifty;
        apart = let h = b.from in omega arith;
        wide = b.wide;
        rise = le_from _ _ r.0;
      };
      grid = looser_one (p.0 + 1) 0 (q ∷ rest) (omega arith) a.rest;
      rise = r.1;
    }

-- what a graph's value, times the scale, grows by on the step of 50 from x on
abbrev pub growth : Points → ℕ → ℕ
growth [] x = 0
growth (p ∷ []) x = 0
growth (p ∷ q ∷ rest) x = if nat_lt x q.0 then slope p q else growth (q ∷ rest) x

-- a graph at its first x
pub at_start : (p : ℕ × ℕ) (ps : Points) → is_on_grid 0 (p ∷ ps) ≡ true → rises (p ∷ ps) ≡ true → scaled_value (p ∷ ps) p.0 ≡ scale * p.1
at_start p [] grid rise = one (scale * p.1)
  where
    one : (k : ℕ) → k / 1 ≡ k
    one k = omega arith
at_start p (q ∷ rest) grid rise =
    let b : Begins p q rest = begins p q rest grid rise in
    let test : nat_le p.0 q.0 ≡ true = (let a = b.line.apart in grind (arith, nat_tests)) in
    rw test (line_start p q b.line)

-- where a line ends, the next one goes on
pub goes_on : (p q : ℕ × ℕ) (rest : Points) (x : ℕ) → is_on_grid 0 (p ∷ q ∷ rest) ≡ true → rises (p ∷ q ∷ rest) ≡ true → q.0 ≤ x → scaled_value (p ∷ q ∷ rest) x ≡ scaled_value (q ∷ rest) x
goes_on p q rest x grid rise after =
    let b : Begins p q rest = begins p q rest grid rise in
    elim (cases_lt q.0 x) [
      | inl above ↦ (let test : nat_le x q.0 ≡ false = grind (arith, nat_tests) in rw test refl)
      | inr at ↦ (
          let same : x ≡ q.0 = omega arith in
          let test : nat_le q.0 q.0 ≡ true = grind (arith, nat_tests) in
          rw (same, test) (line_end p q b.line ∙ sym (at_start q rest b.grid b.rise)))
    ]

on_line_grows : (p q : ℕ × ℕ) (x : ℕ) → Line p q → p.0 ≤ x → x % 50 ≡ 0 → scale * (on_line p q (x + 50)).num / (on_line p q (x + 50)).den ≡ scale * (on_line p q x).num / (on_line p q x).den + slope p q
on_line_grows p q x line low grid =
    let more : (x + 50 - p.0) / 50 ≡ (x - p.0) / 50 + 1 = omega arith in
    let low_more : p.0 ≤ x + 50 = omega arith in
    let grid_more : (x + 50) % 50 ≡ 0 = omega arith in
    line_scaled p q (x + 50) line low_more grid_more
    ∙ (ap (λ k. scale * p.1 + k * slope p q) more
    ∙ (one_more (scale * p.1) ((x - p.0) / 50) (slope p q)
    ∙ ap (λ v. v + slope p q) (sym (line_scaled p q x line low grid))))
  where
    one_more : (s i k : ℕ) → s + (i + 1) * k ≡ s + i * k + k
    one_more s i k = omega arith

pub grows : (ps : Points) (x : ℕ) → is_on_grid 0 ps ≡ true → rises ps ≡ true → first_x ps ≤ x → x % 50 ≡ 0 → x + 50 ≤ last_x ps → scaled_value ps (x + 50) ≡ scaled_value ps x + growth ps x
grows [] x grid rise low fifty high = absurd (omega arith)
grows (p ∷ []) x grid rise low fifty high = absurd (omega arith)
grows (p ∷ q ∷ rest) x grid rise low fifty high =
    let b : Begins p q rest = begins p q rest grid rise in
    let to = b.line.to in
    elim (cases_lt x q.0) [
      | inl within ↦ (
          let here : nat_le x q.0 ≡ true = grind (arith, nat_tests) in
          let next : nat_le (x + 50) q.0 ≡ true = (let h : x + 50 ≤ q.0 = omega arith in grind (arith, nat_tests)) in
          let test : nat_lt x q.0 ≡ true = grind (arith, nat_tests) in
          rw (here, next, test) (on_line_grows p q x b.line low fifty))
      | inr after ↦ (
          let next : nat_le (x + 50) q.0 ≡ false = grind (arith, nat_tests) in
          let test : nat_lt x q.0 ≡ false = grind (arith, nat_tests) in
          rw (goes_on p q rest x grid rise after, next, test) (grows (q ∷ rest) x b.grid b.rise after fifty high))
    ]
