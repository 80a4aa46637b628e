-- The bytes of a text that are passed over by one load after another, and those of one word.
use Rattle.std.specs.Prelude.{◌≡◌, ◌≤◌, ◌==◌, ℕ, Bool, true, List, bit_xor, length, slice_range, if◌then◌else◌}
use Rattle.std.specs.Int.{w64, trailing_zeros}
use Rattle.std.specs.Int.Digits.{AllBelowBase}
use Rattle.std.specs.List.{list_all}
use Rattle.sq_value.specs.Texts.{is_digit}
use Rattle.sq_csv.specs.Cuts.{below_128}

-- the place of the lowest bit that is set, or 16
abbrev pub first_set : ℕ → ℕ
first_set mask = if mask == 0 then 16 else trailing_zeros w64 mask

-- all bytes from a place to another pass a test, and it is told whether they are of ASCII
pub record PassesOver (test : ℕ → Bool) (text : List ℕ) (from : ℕ) (skipped : ℕ × Bool) : Type 0 where
  pub ahead : from ≤ skipped.0
  pub within : skipped.0 ≤ length text
  pub passed : list_all test (slice_range text from skipped.0) ≡ true
  pub ascii : skipped.1 ≡ list_all below_128 (slice_range text from skipped.0)

-- eight numbers below a base
abbrev pub AreEight : ℕ → List ℕ → Type 0
AreEight base ns = (length ns ≡ 8) × AllBelowBase base ns

-- a digit's value; of any other byte it is at least 10
abbrev pub less_zero : ℕ → ℕ
less_zero b = bit_xor b 48

-- the high bit of a byte, set where this one is no digit
abbrev pub flag : ℕ → ℕ
flag b = if is_digit b then 0 else 128
