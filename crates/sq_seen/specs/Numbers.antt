-- The least common multiple of numbers.
use Rattle.std.specs.Prelude.{ℕ, zero, suc, ◌*◌, ◌/◌, ◌%◌, [], ◌∷◌, List}

-- the greatest common divisor, in at most n divisions
abbrev pub gcd_within : ℕ → ℕ → ℕ → ℕ
gcd_within zero a b = a
gcd_within (suc n) a zero = a
gcd_within (suc n) a (suc b) = gcd_within n (suc b) (a % suc b)

-- each two divisions halve the greater number, so 128 are enough below 2^64
abbrev pub gcd_of : ℕ → ℕ → ℕ
gcd_of a b = gcd_within 128 a b

abbrev pub lcm_of : ℕ → ℕ → ℕ
lcm_of a b = a / gcd_of a b * b

abbrev pub lcm_of_all : List ℕ → ℕ
lcm_of_all [] = 1
lcm_of_all (a ∷ as') = lcm_of a (lcm_of_all as')
