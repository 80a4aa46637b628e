-- Counts of epochs, and what lies between two epochs.
use Rattle.std.proofs.Common.{◌≡◌, ℕ, ◌+◌, ◌/◌, ◌≤◌, ◌<◌, eqb, Bool, true, false, cond, ◌&&◌, List, ◌∷◌, map, length, drop, get_or, refl, ap, sym, ◌∙◌, arith}
use Rattle.std.proofs.lemmas.Bool.Decides.{nat_tests}
use Rattle.std.proofs.lemmas.List.{drop_more}
use Rattle.std.proofs.lemmas.List.Sums.{sum_by-cons}
use Rattle.sq_value.specs.declared.Tuple.{Tuple}
use Rattle.sq_plan.specs.PlanRows.{is_quiet}
use Rattle.sq_plan.specs.Arrivals.{arrivals}
use Rattle.sq_model.specs.Epochs.{count_in}

other : (a b : ℕ) → a < b → eqb b a ≡ false
other a b h = grind (arith, nat_tests)

-- a tuple of another epoch isn't counted
pub not_counted : (epoch e ended first : ℕ) (xs : List Tuple) (i : ℕ) (x : Tuple) → i < length xs → x ≡ get_or xs i x → ended < e → e < first → (ended < x.time / epoch → first ≤ x.time / epoch)
    → count_in epoch e (drop i xs) ≡ count_in epoch e (drop (i + 1) xs)
not_counted epoch e ended first xs i x lt is after below skips =
    ap (count_in epoch e) (drop_more xs i x lt ∙ ap (λ y. y ∷ drop (i + 1) xs) (sym is))
    ∙ by (eqb (x.time / epoch) e) refl
  where
    same : (a b : ℕ) → eqb a b ≡ true → a ≡ b
    same a b h = grind (arith, nat_tests)

    by : (b : Bool) → eqb (x.time / epoch) e ≡ b → count_in epoch e (x ∷ drop (i + 1) xs) ≡ count_in epoch e (drop (i + 1) xs)
    by true h = let here = same (x.time / epoch) e h in absurd (let past = skips (omega (arith, here, after)) in omega (arith, here, past, below))
    by false h =
        let all = sum_by-cons (λ (y : Tuple). cond (eqb (y.time / epoch) e) 1 0) x (drop (i + 1) xs) in
        all ∙ ap (λ b. cond b 1 0 + count_in epoch e (drop (i + 1) xs)) h ∙ omega arith

-- nor is an epoch less quiet where no tuple of a source arrives in it
pub not_quiet_less : {X : Type 0} (f : X → List Tuple) (epoch e : ℕ) (xs : List X) (i : ℕ) (x : X) → i < length xs → x ≡ get_or xs i x → count_in epoch e (f x) ≡ 0
    → is_quiet (arrivals epoch (map f (drop i xs)) e) ≡ is_quiet (arrivals epoch (map f (drop (i + 1) xs)) e)
not_quiet_less f epoch e xs i x lt is none =
    ap (λ ys. is_quiet (arrivals epoch (map f ys) e)) (drop_more xs i x lt ∙ ap (λ y. y ∷ drop (i + 1) xs) (sym is))
    ∙ ap (λ n. eqb n 0 && is_quiet (arrivals epoch (map f (drop (i + 1) xs)) e)) none

-- one more source counted
pub counted_more : {X : Type 0} (f : X → List Tuple) (epoch e : ℕ) (xs : List X) (i : ℕ) (x : X) → i < length xs → x ≡ get_or xs i x
    → arrivals epoch (map f (drop i xs)) e ≡ count_in epoch e (f x) ∷ arrivals epoch (map f (drop (i + 1) xs)) e
counted_more f epoch e xs i x lt is = ap (λ ys. arrivals epoch (map f ys) e) (drop_more xs i x lt ∙ ap (λ y. y ∷ drop (i + 1) xs) (sym is))
