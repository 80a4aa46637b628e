-- The least of a list, and the list without it, against the list in order.
use Rattle.std.proofs.Common.{◌≡◌, Bool, true, false, List, [], ◌∷◌, Option, Some, None, refl, ap, ◌∙◌}
use Rattle.std.specs.Prelude.{if◌then◌else◌}
use Rattle.std.specs.List.{AllByRecursion}
use Rattle.std.specs.Option.{IfSome}
use Rattle.sq_words.specs.Lists.{insert_by, sort_by, least_by, lesser}

abbrev pub first_option : {X : Type 0} → List X → Option X
first_option [] = None
first_option (x ∷ xs) = Some x

abbrev pub rest_of : {X : Type 0} → List X → List X
rest_of [] = []
rest_of (x ∷ xs) = xs

abbrev pub rem_with : {X : Type 0} → (X → X → Bool) → X → Option X → List X → List X → List X
rem_with before x None xs less = xs
rem_with before x (Some y) xs less = if before y x then x ∷ less else xs

-- without the least
abbrev pub rem_least : {X : Type 0} → (X → X → Bool) → List X → List X
rem_least before [] = []
rem_least before (x ∷ xs) = rem_with before x (least_by before xs) xs (rem_least before xs)

module _ {X : Type 0} (before : X → X → Bool) where
  first-insert : (x : X) (S : List X) → Some (lesser before x (first_option S)) ≡ first_option (insert_by before x S)
  first-insert x [] = refl
  first-insert x (y ∷ ys) =
      elim (before y x) as (λ b. Some (if b then y else x) ≡ first_option (if b then y ∷ insert_by before x ys else x ∷ y ∷ ys)) [ true ↦ refl | false ↦ refl ]

  pub least-sort : (xs : List X) → least_by before xs ≡ first_option (sort_by before xs)
  least-sort [] = refl
  least-sort (x ∷ xs) = ap (λ l. Some (lesser before x l)) (least-sort xs) ∙ first-insert x (sort_by before xs)

  rem-insert : (x : X) (xs r S : List X) → sort_by before r ≡ rest_of S → sort_by before xs ≡ S
      → sort_by before (rem_with before x (first_option S) xs r) ≡ rest_of (insert_by before x S)
  rem-insert x xs r [] hr h = h
  rem-insert x xs r (y ∷ ys) hr h =
      elim (before y x) as (λ b. sort_by before (if b then x ∷ r else xs) ≡ rest_of (if b then y ∷ insert_by before x ys else x ∷ y ∷ ys)) [
        | true ↦ ap (insert_by before x) hr
        | false ↦ h
      ]

  pub rem-sort : (xs : List X) → sort_by before (rem_least before xs) ≡ rest_of (sort_by before xs)
  rem-sort [] = refl
  rem-sort (x ∷ xs) =
      ap (λ l. sort_by before (rem_with before x l xs (rem_least before xs))) (least-sort xs)
      ∙ rem-insert x xs (rem_least before xs) (sort_by before xs) (rem-sort xs) refl

  holds-lesser : (P : X → Type 0) (x : X) (l : Option X) → P x → IfSome l P → P (lesser before x l)
  holds-lesser P x None p h = p
  holds-lesser P x (Some y) p h = elim (before y x) as (λ b. P (if b then y else x)) [ true ↦ h | false ↦ p ]

  pub holds-least : (P : X → Type 0) (xs : List X) → AllByRecursion P xs → IfSome (least_by before xs) P
  holds-least P [] all = tt
  holds-least P (x ∷ xs) all = holds-lesser P x (least_by before xs) all.0 (holds-least P xs all.1)

  All-rem-with : (P : X → Type 0) (x : X) (l : Option X) (xs less : List X) → P x → AllByRecursion P xs → AllByRecursion P less
      → AllByRecursion P (rem_with before x l xs less)
  All-rem-with P x None xs less p all h = all
  All-rem-with P x (Some y) xs less p all h = elim (before y x) as (λ b. AllByRecursion P (if b then x ∷ less else xs)) [ true ↦ (p, h) | false ↦ all ]

  pub All-rem : (P : X → Type 0) (xs : List X) → AllByRecursion P xs → AllByRecursion P (rem_least before xs)
  All-rem P [] all = tt
  All-rem P (x ∷ xs) all = All-rem-with P x (least_by before xs) xs (rem_least before xs) all.0 all.1 (All-rem P xs all.1)
