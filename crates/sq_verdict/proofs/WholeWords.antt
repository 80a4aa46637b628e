-- Texts in which nothing is wrong: each line of a class is there, in order, and nothing else is, whatever the order between classes: words of the proofs alone.
use Rattle.sq_verdict.specs.WholeTexts.{AreEnds, Expected}
use Rattle.std.specs.Prelude.{List, Some, map, true, ℕ, ◌≡◌, ◌<◌, ◌∷◌, ◌++◌}
use Rattle.sq_words.specs.Lists.{are_distinct}
use Rattle.sq_verdict.specs.Faults.{batch_rises, drop_told_in}

-- lines of a drop, each above those before it
abbrev pub AreDrops : ℕ → ℕ → List (List ℕ) → Type 0
AreDrops drops w ls = (front : List (List ℕ)) (l : List ℕ) (back : List (List ℕ)) → ls ≡ front ++ (l ∷ back)
    → (b : ℕ) × (drop_told_in drops l ≡ Some (w, b)) × (batch_rises drops front (Some (w, b)) ≡ true)

-- what is due can be told apart
pub record IsSoundDue (d : Expected) : Type 0 where
  pub distinct : are_distinct (map (λ o. o.0) d.shown) ≡ true
  pub dropped : (w : ℕ) → w < d.drops → AreDrops d.drops w (d.dropped w)
  pub ended : AreEnds d.ended
