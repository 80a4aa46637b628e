-- Names and kinds that are a schema.
use Rattle.std.proofs.Common.{◌≡◌, refl, ℕ, ◌≤◌, true, ◌&&◌, ◌==◌, List, length, None, arith}
use Rattle.std.specs.Prelude.{nat_le}
use Rattle.std.proofs.lemmas.Bool.Decides.{nat_tests}
use Rattle.sq_value.specs.declared.Kind.{Kind}
use Rattle.sq_words.specs.Lists.{are_distinct}
use Rattle.sq_value.specs.Schemas.{schema_error}

pub schema_none : (names : List (List ℕ)) (kinds : List Kind) → length names ≡ length kinds → 1 ≤ length names → length names ≤ 16 → are_distinct names ≡ true → schema_error names kinds ≡ None
schema_none names kinds even some few distinct =
    let one = is_even (length names) (length kinds) even in
    let two = is_between (length names) some few in
    rw (one, two, distinct) refl
  where
    is_even : (a b : ℕ) → a ≡ b → (a == b) ≡ true
    is_even a b h = grind (arith, nat_tests)

    is_between : (a : ℕ) → 1 ≤ a → a ≤ 16 → (nat_le 1 a && nat_le a 16) ≡ true
    is_between a h g = grind (arith, nat_tests)
