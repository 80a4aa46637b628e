-- Lists by the places of their items.
use Rattle.std.proofs.Common.{◌≡◌, refl, ℕ, zero, suc, Bool, true, List, [], ◌∷◌, map, length, Some, slice_get, arith}
use Rattle.std.specs.List.{list_all}

pub all_by_place : {A : Type 0} (test : A → Bool) (xs : List A) → ((i : ℕ) (x : A) → slice_get xs i ≡ Some x → test x ≡ true) → list_all test xs ≡ true
all_by_place test [] h = refl
all_by_place test (x ∷ xs) h =
    let here : test x ≡ true = h zero x refl in
    let more : list_all test xs ≡ true = all_by_place test xs (λ i y e. h (suc i) y e) in
    rw (here, more) refl

-- two lists that give the same at each place
pub maps_same : {A B C : Type 0} (f : A → C) (g : B → C) (xs : List A) (ys : List B) → length xs ≡ length ys
    → ((i : ℕ) (x : A) (y : B) → slice_get xs i ≡ Some x → slice_get ys i ≡ Some y → f x ≡ g y) → map f xs ≡ map g ys
maps_same f g [] [] e h = refl
maps_same f g [] (y ∷ ys) e h = absurd (omega arith)
maps_same f g (x ∷ xs) [] e h = absurd (omega arith)
maps_same f g (x ∷ xs) (y ∷ ys) e h =
    let here : f x ≡ g y = h zero x y refl refl in
    let more : map f xs ≡ map g ys = maps_same f g xs ys (omega arith) (λ i a b p q. h (suc i) a b p q) in
    rw (here, more) refl
