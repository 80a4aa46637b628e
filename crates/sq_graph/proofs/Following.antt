-- In the order each box stands behind those that give what it takes.
use Rattle.std.proofs.Common.{◌≡◌, ℕ, zero, suc, true, List, [], ◌∷◌, ◌++◌, Option, Some, None, length, append-nil, append_assoc}
use Rattle.std.specs.List.{find}
use Rattle.sq_words.specs.Lists.{numbers_to}
use Rattle.sq_graph.specs.declared.Wiring.{Wiring}
use Rattle.sq_graph.specs.Order.{can_be_next, order_after, order_of, then_place, ComesAfterInputs}
use Rattle.sq_graph.proofs.Finding.{found}

nothing_ends : (front rest : List ℕ) (at : ℕ) → [] ≡ front ++ at ∷ rest → ⊥
nothing_ends [] rest at e = cc
nothing_ends (b ∷ front) rest at e = cc

follows_from : (w : Wiring) (n : ℕ) (placed front rest : List ℕ) (at : ℕ) → order_after w n placed ≡ front ++ at ∷ rest → can_be_next w (placed ++ front) at ≡ true
follows_from w zero placed front rest at e = absurd (nothing_ends front rest at e)
follows_from w (suc n) placed front rest at e =
    by_next (find (can_be_next w placed) (numbers_to (length w.boxes))) refl' front e (λ b more left. follows_from w n (placed ++ b ∷ []) more rest at left)
  where
    refl' : find (can_be_next w placed) (numbers_to (length w.boxes)) ≡ find (can_be_next w placed) (numbers_to (length w.boxes))
    refl' = cc

    first_is : (b : ℕ) → find (can_be_next w placed) (numbers_to (length w.boxes)) ≡ Some b → b ≡ at → can_be_next w (placed ++ []) at ≡ true
    first_is b e same = rw (append-nil placed, ← same) (found (can_be_next w placed) (length w.boxes) b e).1

    by_next : (next : Option ℕ) → find (can_be_next w placed) (numbers_to (length w.boxes)) ≡ next → (front : List ℕ)
        → then_place next (λ b. order_after w n (placed ++ b ∷ [])) ≡ front ++ at ∷ rest
        → ((b : ℕ) (more : List ℕ) → order_after w n (placed ++ b ∷ []) ≡ more ++ at ∷ rest → can_be_next w ((placed ++ b ∷ []) ++ more) at ≡ true)
        → can_be_next w (placed ++ front) at ≡ true
    by_next None is front e later = absurd (nothing_ends front rest at e)
    by_next (Some b) is [] e later = first_is b is (cc)
    by_next (Some b) is (c ∷ more) e later =
        let same : b ≡ c = cc in
        let left : order_after w n (placed ++ b ∷ []) ≡ more ++ at ∷ rest = cc in
        rw (← same, ← append_assoc placed (b ∷ []) more) (later b more left)

pub order_follows : (w : Wiring) → ComesAfterInputs w (order_of w)
order_follows w front rest at e = follows_from w (length w.boxes) [] front rest at e
