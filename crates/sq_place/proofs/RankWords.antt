-- Ranks of the boxes: each stands above those that it takes from: words of the proofs alone.
use Rattle.std.specs.List.{AllByRecursion, list_all}
use Rattle.std.specs.Prelude.{List, Some, length, suc, true, ℕ, [], ◌≡◌, ◌<◌, ◌==◌, if◌then◌else◌, ◌∷◌}
use Rattle.sq_graph.specs.Wires.{inputs_of, producer_of}
use Rattle.sq_graph.specs.declared.Producer.TheVariants.{Port}
use Rattle.sq_graph.specs.declared.Wiring.{Wiring}
use Rattle.sq_words.specs.Lists.{contains_number, numbers_to}
use Rattle.sq_graph.specs.Order.{order_of}

-- each box has a rank, above those of the boxes before it and below the number of boxes: its place in the order
pub record IsRanked (w : Wiring) (rank : ℕ → ℕ) : Type 0 where
  pub rises : (b : ℕ) → AllByRecursion (λ s. (c q : ℕ) → producer_of w s ≡ Some (Port c q) → rank c < rank b) (inputs_of w b)
  pub low : (s b q : ℕ) → producer_of w s ≡ Some (Port b q) → rank b < length w.boxes

-- the place of a number in a list
abbrev pub rank_in : List ℕ → ℕ → ℕ
rank_in [] b = 0
rank_in (x ∷ xs) b = if x == b then 0 else suc (rank_in xs b)

-- the order has every box
abbrev pub AllPlaced : Wiring → Type 0
AllPlaced w = list_all (contains_number (order_of w)) (numbers_to (length w.boxes)) ≡ true
