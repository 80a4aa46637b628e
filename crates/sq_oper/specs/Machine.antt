use Rattle.std.specs.Prelude.{ℕ, List, [], ◌∷◌, ◌++◌}
use Rattle.sq_item.specs.Things.{Thing}
use Rattle.sq_oper.specs.Entries.{Entry}

-- a box as a machine: what a state gives for one entry at a port, the state after it, and what it gives at the end
abbrev pub run_of : {S : Type 0} → (S → Entry → S) → (S → Entry → ℕ → List Thing) → (S → ℕ → List Thing) → S → List Entry → ℕ → List Thing
run_of next gives flush state [] q = flush state q
run_of next gives flush state (entry ∷ entries) q = gives state entry q ++ run_of next gives flush (next state entry) entries q

-- the state after some entries, and what they give
abbrev pub next_all : {S : Type 0} → (S → Entry → S) → S → List Entry → S
next_all next state [] = state
next_all next state (entry ∷ entries) = next_all next (next state entry) entries

abbrev pub gives_all : {S : Type 0} → (S → Entry → S) → (S → Entry → ℕ → List Thing) → S → List Entry → ℕ → List Thing
gives_all next gives state [] q = []
gives_all next gives state (entry ∷ entries) q = gives state entry q ++ gives_all next gives (next state entry) entries q
