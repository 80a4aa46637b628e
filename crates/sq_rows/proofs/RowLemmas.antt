-- A place in a row of states.
use Rattle.std.proofs.Common.{◌≡◌, ℕ, zero, suc, ◌+◌, ◌-◌, ◌<◌, length, get_or, take, drop, List, [], ◌∷◌, ap, ap₂, sym, ◌∙◌, subst, arith}
use Rattle.std.proofs.lemmas.List.{drop_more}
use Rattle.std.specs.List.{AllByRecursion}
use Rattle.sq_rows.specs.Rows.{AllAreMade}

module _ {A : Type 0} (P : A → Type 0) where
  pub all-at : (xs : List A) (i : ℕ) (d : A) → AllByRecursion P xs → i < length xs → P (get_or xs i d)
  all-at [] i d all lt = absurd (omega (arith, lt))
  all-at (x ∷ xs) zero d all lt = all.0
  all-at (x ∷ xs) (suc i) d all lt = all-at xs i d all.1 (omega (arith, lt))

-- from a place on stands what is there, and then the rest
pub drop_at : {A : Type 0} (xs : List A) (i : ℕ) (x : A) → i < length xs → x ≡ get_or xs i x → drop i xs ≡ x ∷ drop (i + 1) xs
drop_at xs i x lt is = drop_more xs i x lt ∙ ap (λ z. z ∷ drop (i + 1) xs) (sym is)

pub made_at : {M : Type 0} (made : M → Type 0) (es : List (ℕ × M)) (i : ℕ) (x : ℕ × M) → i < length es → x ≡ get_or es i x → AllAreMade made es → made x.1
made_at {M} made es i x lt is all = subst (λ (z : ℕ × M). made z.1) (sym is) (all-at (λ (e : ℕ × M). made e.1) es i x all lt)

-- the next of a run
pub run_next : {A : Type 0} (xs : List A) (i to : ℕ) (x : A) → i < to → i < length xs → x ≡ get_or xs i x → take (to - i) (drop i xs) ≡ x ∷ take (to - (i + 1)) (drop (i + 1) xs)
run_next xs i to x lt inside is =
    let next : to - i ≡ suc (to - (i + 1)) = omega (arith, lt) in
    ap₂ take next (drop_more xs i x inside) ∙ ap (λ z. z ∷ take (to - (i + 1)) (drop (i + 1) xs)) (sym is)
