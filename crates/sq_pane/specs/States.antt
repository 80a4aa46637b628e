-- The states of all groups.
use Rattle.std.specs.Prelude.{ℕ, List, [], ◌∷◌, ◌++◌, drop}
use Rattle.std.specs.List.{AllByRecursion}
use Rattle.sq_value.specs.declared.Value.{Value}
use Rattle.sq_pane.specs.declared.line.Line.{Line}
use Rattle.sq_pane.specs.Blocks.{AreBlocks}
use Rattle.sq_pane.specs.Panes.{Key, under_group}

-- the states of all groups, in the order of groups and then of panes
abbrev pub states_of : {M : Type 0} → List (List Value × Line M) → List (Key × M)
states_of [] = []
states_of (l ∷ ls) = under_group l.0 l.1.states.items ++ states_of ls

-- the blocks of each group stand behind the first of its states
abbrev pub HaveBlocks : {M : Type 0} → (List (ℕ × M) → M → Type 0) → List (List Value × Line M) → Type 0
HaveBlocks P ls = AllByRecursion (λ l. AreBlocks 64 P l.1.blocks.items (drop l.1.ahead l.1.states.items)) ls
