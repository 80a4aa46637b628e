-- What holds of all items of a list.
use Rattle.std.specs.List.{AllByRecursion, filter}
use Rattle.std.proofs.Common.{List, ◌++◌, Some, slice_get, subst, suc, zero, ℕ, [], ◌≡◌, ◌∷◌, Bool}
use Rattle.std.proofs.lemmas.List.Elements as each

pub all_append : {X : Type 0} (P : X → Type 0) (xs ys : List X) → AllByRecursion P xs → AllByRecursion P ys → AllByRecursion P (xs ++ ys)
all_append P xs ys all more = each.recursion_from_All P (xs ++ ys) (each.All-append P xs ys (each.All-from_recursion P xs all) (each.All-from_recursion P ys more))

pub all_at : {X : Type 0} (P : X → Type 0) (xs : List X) (i : ℕ) (x : X) → AllByRecursion P xs → slice_get xs i ≡ Some x → P x
all_at P [] i x all e = cc
all_at {X} P (y ∷ xs) zero x all e = let same : y ≡ x = cc in subst P same all.0
all_at P (y ∷ xs) (suc i) x all e = all_at P xs i x all.1 e

pub all_weaker : {X : Type 0} (P Q : X → Type 0) → ((x : X) → P x → Q x) → (xs : List X) → AllByRecursion P xs → AllByRecursion Q xs
all_weaker P Q f xs all = each.recursion_from_All Q xs (each.All-weaker P Q f xs (each.All-from_recursion P xs all))

pub all_push : {X : Type 0} (P : X → Type 0) (xs : List X) (x : X) → AllByRecursion P xs → P x → AllByRecursion P (xs ++ x ∷ [])
all_push P xs x all p = all_append P xs (x ∷ []) all (p, tt)

pub all_filter : {X : Type 0} (P : X → Type 0) (p : X → Bool) (xs : List X) → AllByRecursion P xs → AllByRecursion P (filter p xs)
all_filter P p xs all = each.recursion_from_All P (filter p xs) (each.All-filter p P xs (each.All-from_recursion P xs all))
