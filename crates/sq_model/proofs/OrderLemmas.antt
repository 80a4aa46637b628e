-- In a wiring without a cycle each box stands in the order, behind what it takes.
use Rattle.std.proofs.Common.{◌≡◌, ◌∙◌, ap, refl, sym, ℕ, zero, suc, ◌+◌, ◌<◌, ◌≤◌, Bool, true, false, ◌||◌, ◌==◌, List, [], ◌∷◌, ◌++◌, length, take, drop, get_or, arith}
use Rattle.std.proofs.lemmas.Bool.{or_right, or_left}
use Rattle.std.proofs.lemmas.Bool.Decides.{nat_tests}
use Rattle.std.proofs.lemmas.List.{drop_more, take-append-drop}
use Rattle.sq_graph.specs.declared.Wiring.{Wiring}
use Rattle.sq_graph.specs.Order.{can_be_next, order_of, IsWired, LiesOnCycle}
use Rattle.sq_graph.proofs.Cycles.{has_is}
use Rattle.sq_graph.proofs.Following.{order_follows}
use Rattle.sq_graph.proofs.Placing.{order_placed, order_length}
use Rattle.sq_words.specs.Lists.{contains_number}
use Rattle.sq_place.proofs.Ranks.{order-full}

pub order_counts : (w : Wiring) → IsWired w → ((at : ℕ) → LiesOnCycle w at → ⊥) → length (order_of w) ≡ length w.boxes
order_counts w wired acyclic = order_length w (order-full w wired acyclic)

-- the boxes in front of one that is among these, and those behind it
pub parts_around : (xs : List ℕ) (at : ℕ) → contains_number xs at ≡ true → (front rest : List ℕ) × (xs ≡ front ++ at ∷ rest)
parts_around [] at h = cc
parts_around (x ∷ xs) at h = by_test (x == at) refl h (λ later. parts_around xs at later)
  where
    same_from : (a b : ℕ) → (a == b) ≡ true → a ≡ b
    same_from a b e = grind (arith, nat_tests)

    by_test : (b : Bool) → (x == at) ≡ b → (b || contains_number xs at) ≡ true → (contains_number xs at ≡ true → (front rest : List ℕ) × (xs ≡ front ++ at ∷ rest))
        → (front rest : List ℕ) × (x ∷ xs ≡ front ++ at ∷ rest)
    by_test true e h more = ([], xs, ap (λ y. y ∷ xs) (same_from x at e))
    by_test false e h more = let found = more h in (x ∷ found.0, found.1, ap (λ ys. x ∷ ys) found.2)

-- the box at a place of the order is there, and can be next behind those in front of it
pub order_inside : (w : Wiring) (i d : ℕ) → i < length (order_of w) → get_or (order_of w) i d < length w.boxes
order_inside w i d low = (order_placed w).below (get_or (order_of w) i d) (sym (has_is (order_of w) (get_or (order_of w) i d)) ∙ contains_at (order_of w) i low)
  where
    contains_at : (xs : List ℕ) (i : ℕ) → i < length xs → contains_number xs (get_or xs i d) ≡ true
    contains_at [] i low = absurd (omega arith)
    contains_at (x ∷ xs) zero low = or_left (x == x) (contains_number xs x) (grind (arith, nat_tests))
    contains_at (x ∷ xs) (suc i) low = or_right (x == get_or xs i d) (contains_number xs (get_or xs i d)) (contains_at xs i (omega arith))

pub order_next : (w : Wiring) (i d : ℕ) → i < length (order_of w) → can_be_next w (take i (order_of w)) (get_or (order_of w) i d) ≡ true
order_next w i d low =
    order_follows w (take i (order_of w)) (drop (i + 1) (order_of w)) (get_or (order_of w) i d)
    (sym (take-append-drop i (order_of w)) ∙ ap (λ xs. take i (order_of w) ++ xs) (drop_more (order_of w) i d low))
