-- Numbers need no quotes.
use Rattle.std.proofs.Common.{◌≡◌, ℕ, ℤ, pos, negsuc, ◌^◌, ◌<◌, suc, true, false, List, [], ◌∷◌, refl, arith}
use Rattle.std.specs.Prelude.{FitsSigned}
use Rattle.std.specs.Fmt.{decimal, signed_decimal}
use Rattle.std.specs.List.{list_all, list_any}
use Rattle.std.specs.Int.{w64}
use Rattle.std.proofs.lemmas.Bool.Decides.{nat_tests}
use Rattle.std.proofs.lemmas.Int.{ints}
use Rattle.std.proofs.lemmas.Fmt.{digits_decimal}
use Rattle.sq_value.specs.Texts.{is_digit}
use Rattle.sq_lines.specs.LineTexts.{needs_quotes}
use Rattle.sq_value.proofs.ReadBack.{own}

digit_bare : (b : ℕ) → is_digit b ≡ true → needs_quotes b ≡ false
digit_bare b h = grind (arith, nat_tests)

digits_bare : (ds : List ℕ) → list_all is_digit ds ≡ true → list_any needs_quotes ds ≡ false
digits_bare [] h = refl
digits_bare (d ∷ ds) h =
    let first : is_digit d ≡ true = grind arith in
    let others : list_all is_digit ds ≡ true = grind arith in
    rw (digit_bare d first, digits_bare ds others)

pub decimal_bare : (n : ℕ) → n < 2 ^ 64 → list_any needs_quotes (decimal n) ≡ false
decimal_bare n small = digits_bare (decimal n) (digits_decimal own n small)

pub signed_bare : (z : ℤ) → FitsSigned w64 z → list_any needs_quotes (signed_decimal z) ≡ false
signed_bare (pos n) fits = decimal_bare n (omega (arith, ints))
signed_bare (negsuc n) fits = decimal_bare (suc n) (omega (arith, ints))
