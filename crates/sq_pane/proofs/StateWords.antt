-- The states of all groups: words of the proofs alone.
use Rattle.sq_pane.specs.declared.line.Line.{Line}
use Rattle.std.specs.Prelude.{List, None, ℕ, [], ◌∷◌, ◌++◌}
use Rattle.sq_value.specs.declared.Value.{Value}
use Rattle.sq_aggfn.specs.declared.WindowSpec.{WindowSpec}
use Rattle.sq_pane.specs.Panes.{group_entry, joined_within}

-- the groups of a window, one after another
abbrev pub groups_within : {M : Type 0} → M → (M → M → M) → WindowSpec → ℕ → ℕ → List (List Value × Line M) → List (List Value × M)
groups_within none join w width start [] = []
groups_within none join w width start (l ∷ ls) = group_entry l.0 (joined_within none join w width start None l.1.states.items) ++ groups_within none join w width start ls
