-- Tests of numbers.
use Rattle.std.proofs.Common.{arith, true, ℕ, ◌≡◌, ◌<◌, eqb, leb, ◌≤◌, tests, ◌*◌, false, ltb, ◌==◌}
use Rattle.std.specs.Prelude.{nat_lt, nat_le}
use Rattle.std.proofs.lemmas.Bool.Decides.{nat_tests}

pub nat_lt_true : (a b : ℕ) → a < b → nat_lt a b ≡ true
nat_lt_true a b h = grind (arith, nat_tests)

pub below_one : (a : ℕ) → a < 1 → eqb a 0 ≡ true
below_one a h = grind (arith, nat_tests)

pub leb_from : (a b : ℕ) → leb a b ≡ true → a ≤ b
leb_from a b h = grind (arith, nat_tests)

pub leb_true : (a b : ℕ) → a ≤ b → leb a b ≡ true
leb_true a b h = grind (arith, nat_tests)

pub eqb_true : (a b : ℕ) → a ≡ b → eqb a b ≡ true
eqb_true a b h = grind (arith, nat_tests)

pub eqb_itself : (n : ℕ) → eqb n n ≡ true
eqb_itself n = grind arith

pub eq_itself : (n : ℕ) → (n == n) ≡ true
eq_itself n = grind (arith, tests)

pub nat_le_true : (a b : ℕ) → a ≤ b → nat_le a b ≡ true
nat_le_true a b h = grind (arith, tests)

pub times_up : (a b n : ℕ) → a ≤ b → a * n ≤ b * n
times_up a b n h = grind arith

pub ltb_not : (a b : ℕ) → ltb a b ≡ false → b ≤ a
ltb_not a b h = grind (arith, nat_tests)

pub eq_from : (a b : ℕ) → (a == b) ≡ true → a ≡ b
eq_from a b h = grind (arith, nat_tests)
