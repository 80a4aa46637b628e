-- Truth values.
use Rattle.std.proofs.Common.{Bool, false, refl, true, ◌≡◌, ◌&&◌, not, inl, inr, ◌||◌, ◌⊎◌}
use Rattle.std.specs.declared.cmp.Ordering.TheVariants.{Equal, Greater, Less}
use Rattle.std.specs.declared.cmp.Ordering.{Ordering}
use Rattle.std.specs.Ordering.{is_eq}

pub and_true : (a b : Bool) → (a && b) ≡ true → (a ≡ true) × (b ≡ true)
and_true true b h = (refl, h)
and_true false b h = cc

pub not_true : (b : Bool) → not b ≡ true → b ≡ false
not_true true h = cc
not_true false h = refl

pub is_eq_true : (o : Ordering) → is_eq o ≡ true → o ≡ Equal
is_eq_true Less h = cc
is_eq_true Equal h = refl
is_eq_true Greater h = cc

pub and_second : (x y : Bool) → (x && y) ≡ true → y ≡ true
and_second true y h = h
and_second false y h = absurd (cc h)

pub or_cases : (a b : Bool) → (a || b) ≡ true → (a ≡ true) ⊎ (b ≡ true)
or_cases true b h = inl refl
or_cases false b h = inr h

pub and_first : (x y : Bool) → (x && y) ≡ true → x ≡ true
and_first true y h = refl
and_first false y h = absurd (cc h)

pub true_is_not_false : (b : Bool) → b ≡ true → b ≡ false → ⊥
true_is_not_false true h k = absurd cc
true_is_not_false false h k = absurd cc

pub or_false : (a : Bool) → (a || false) ≡ a
or_false true = refl
or_false false = refl
