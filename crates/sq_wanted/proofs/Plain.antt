-- Plain facts of truth values and lists.
use Rattle.std.proofs.Common.{◌≡◌, ℕ, zero, suc, ◌+◌, List, [], ◌∷◌, drop, refl, ap, sym, ◌∙◌, arith, Some, None}
use Rattle.std.specs.Prelude.{slice_get}
use Rattle.std.proofs.lemmas.Option.{same_Some}

-- what stands at a place is the first of what stands from there on
pub get-drop : {X : Type 0} (xs : List X) (i : ℕ) → slice_get (drop i xs) 0 ≡ slice_get xs i
get-drop [] zero = refl
get-drop [] (suc i) = refl
get-drop (x ∷ xs) zero = refl
get-drop (x ∷ xs) (suc i) = get-drop xs i

drop-suc : {X : Type 0} (i : ℕ) (x : X) (xs : List X) → drop (suc i + 1) (x ∷ xs) ≡ drop (i + 1) xs
drop-suc i x xs = let e : suc i + 1 ≡ suc (i + 1) = omega arith in ap (λ k. drop k (x ∷ xs)) e

pub drop-at : {X : Type 0} (xs : List X) (i : ℕ) (x : X) → slice_get xs i ≡ Some x → drop i xs ≡ x ∷ drop (i + 1) xs
drop-at [] i x h = cc
drop-at (y ∷ xs) zero x h = ap (λ z. z ∷ xs) (same_Some y x h)
drop-at (y ∷ xs) (suc i) x h = drop-at xs i x h ∙ ap (λ zs. x ∷ zs) (sym (drop-suc i y xs))

pub drop-past : {X : Type 0} (xs : List X) (i : ℕ) → slice_get xs i ≡ None → drop i xs ≡ []
drop-past [] zero h = refl
drop-past [] (suc i) h = refl
drop-past (y ∷ xs) zero h = cc
drop-past (y ∷ xs) (suc i) h = drop-past xs i h
