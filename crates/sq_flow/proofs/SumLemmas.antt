-- Sums over the actors.
use Rattle.std.proofs.Common.{◌≡◌, ◌≢◌, ℕ, zero, suc, ◌+◌, ◌<◌, ◌≤◌, eqb, Bool, true, false, refl, ap, arith}
use Rattle.sq_left.proofs.MergeLemmas.{eqb-no}
use Rattle.sq_flow.specs.Flows.{sum_below}
use Rattle.std.proofs.lemmas.Map.Views.{exact_unsigned_eq}
use Rattle.sq_flow.proofs.DoneLemmas.{sums-agree}

-- one of them is greater by so much
pub sum-more : (f g : ℕ → ℕ) (n i d : ℕ) → i < n → ((k : ℕ) → k < n → k ≢ i → g k ≡ f k) → g i ≡ f i + d → sum_below g n ≡ sum_below f n + d
sum-more f g zero i d low same more = absurd (omega arith)
sum-more f g (suc n) i d low same more = by (λ below. sum-more f g n i d below (λ k k_below. same k (omega arith)) more) (eqb n i) refl
  where
    by : (i < n → sum_below g n ≡ sum_below f n + d) → (b : Bool) → eqb n i ≡ b → sum_below g (suc n) ≡ sum_below f (suc n) + d
    by earlier true t =
        let here : n ≡ i = exact_unsigned_eq n i t in
        let last : g n ≡ f n + d = rw here more in
        let rest = sums-agree g f n (λ k below. same k (omega arith) (omega arith)) in omega (arith, rest, last)
    by earlier false t =
        let away : n ≢ i = eqb-no n i t in
        let rest = earlier (omega (arith, away)) in
        let last = same n (omega arith) away in omega (arith, rest, last)

pub sum-most : (f g : ℕ → ℕ) (n : ℕ) → ((k : ℕ) → k < n → f k ≤ g k) → sum_below f n ≤ sum_below g n
sum-most f g zero most = omega arith
sum-most f g (suc n) most = let r = sum-most f g n (λ k low. most k (omega arith)) in let last = most n (omega arith) in omega (arith, r, last)

pub sum-least : (f : ℕ → ℕ) (n i : ℕ) → i < n → f i ≤ sum_below f n
sum-least f zero i low = absurd (omega arith)
sum-least f (suc n) i low = by (sum-least f n i) (eqb n i) refl
  where
    by : (i < n → f i ≤ sum_below f n) → (b : Bool) → eqb n i ≡ b → f i ≤ sum_below f (suc n)
    by earlier true t = let here : n ≡ i = exact_unsigned_eq n i t in let same : f n ≡ f i = ap f here in omega (arith, same)
    by earlier false t = let away : n ≢ i = eqb-no n i t in let r = earlier (omega (arith, away)) in omega (arith, r)
