-- The greatest common divisor, division by division.
use Rattle.std.proofs.Common.{◌≡◌, ℕ, zero, suc, ◌+◌, ◌-◌, ◌%◌, ◌≤◌, ◌<◌, refl, ap, sym, ◌∙◌, arith}
use Rattle.sq_seen.specs.Numbers.{gcd_within}

-- one division
pub gcd-step : (n a b : ℕ) → 1 ≤ b → gcd_within (suc n) a b ≡ gcd_within n b (a % b)
gcd-step n a zero h = absurd (omega (arith, h))
gcd-step n a (suc b) h = refl

pub gcd-done : (n a : ℕ) → gcd_within n a 0 ≡ a
gcd-done zero a = refl
gcd-done (suc n) a = refl

-- the same, as a loop goes
pub gcd-left : (i a b : ℕ) → i < 128 → 1 ≤ b → gcd_within (128 - (i + 1)) b (a % b) ≡ gcd_within (128 - i) a b
gcd-left i a b lt h = let e : 128 - i ≡ suc (128 - (i + 1)) = omega arith in sym (ap (λ n. gcd_within n a b) e ∙ gcd-step (128 - (i + 1)) a b h)

pub gcd-positive : (n a b : ℕ) → 1 ≤ a → 1 ≤ gcd_within n a b
gcd-positive zero a b h = h
gcd-positive (suc n) a zero h = h
gcd-positive (suc n) a (suc b) h = gcd-positive n (suc b) (a % suc b) (omega arith)
