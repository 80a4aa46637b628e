-- A text is cut into its whole lines one after another: words of the proofs alone.
use Rattle.std.specs.Prelude.{List, ℕ, [], ◌∷◌, ◌++◌}

-- some bytes, and then pieces
abbrev pub onto_head : List ℕ → List (List ℕ) → List (List ℕ)
onto_head bs [] = bs ∷ []
onto_head bs (p ∷ ps) = (bs ++ p) ∷ ps
