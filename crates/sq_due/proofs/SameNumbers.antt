-- Functions of the first numbers, listed.
use Rattle.std.proofs.Common.{List, ap, ap₂, arith, length, map, refl, suc, zero, ℕ, ◌≡◌, ◌+◌, ◌∙◌, ◌∷◌, ◌<◌}
use Rattle.std.proofs.lemmas.List.FromFn.{length-map-range_with_len}
use Rattle.sq_words.specs.Lists.{numbers_to}
use Rattle.std.specs.List.{range_with_len}

-- two functions that agree below a number
same_below : (f g : ℕ → ℕ) (from many : ℕ) → ((at : ℕ) → at < from + many → f at ≡ g at) → map f (range_with_len from many) ≡ map g (range_with_len from many)
same_below f g from zero same = refl
same_below f g from (suc many) same =
    ap₂ (λ x xs. x ∷ xs) (same from (omega arith)) (same_below f g (from + 1) many (λ at below. same at (omega (arith, below))))

pub same_numbers : (f g : ℕ → ℕ) (many : ℕ) → ((at : ℕ) → at < many → f at ≡ g at) → map f (numbers_to many) ≡ map g (numbers_to many)
same_numbers f g many same = same_below f g 0 many (λ at below. same at (omega (arith, below)))

pub many_listed : (f : ℕ → ℕ) (many : ℕ) (xs : List ℕ) → xs ≡ map f (numbers_to many) → length xs ≡ many
many_listed f many xs is = ap (λ (ys : List ℕ). length ys) is ∙ length-map-range_with_len f 0 many
