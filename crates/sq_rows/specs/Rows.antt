-- States in a row.
use Rattle.std.specs.Prelude.{ℕ, ◌+◌, List, [], ◌∷◌}
use Rattle.std.specs.List.{AllByRecursion}

-- how many tuples all states hold together
abbrev pub total : {K M : Type 0} → (M → ℕ) → List (K × M) → ℕ
total number [] = 0
total number (e ∷ es) = number e.1 + total number es

-- the fold gave each state
abbrev pub AllAreMade : {K M : Type 0} → (M → Type 0) → List (K × M) → Type 0
AllAreMade made es = AllByRecursion (λ e. made e.1) es

-- some states joined to one, in their order
abbrev pub joined_onto : {M : Type 0} → (M → M → M) → M → List (ℕ × M) → M
joined_onto join m [] = m
joined_onto join m (e ∷ es) = joined_onto join (join m e.1) es
