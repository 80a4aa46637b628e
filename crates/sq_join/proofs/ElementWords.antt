-- The elements of a tagged list: its tuples, each with the side that it comes at: words of the proofs alone.
use Rattle.std.specs.List.{AllByRecursion}
use Rattle.sq_oper.specs.declared.tally.Position.TheVariants.{At, Start}
use Rattle.sq_join.specs.Elements.{Element}
use Rattle.std.specs.Prelude.{List, ℕ, [], ◌≡◌, ◌⊎◌, ◌≤◌, ◌∷◌}
use Rattle.sq_oper.specs.declared.tally.Position.{Position}

-- each is of one of two sides
abbrev pub TwoSides : List Element → Type 0
TwoSides es = AllByRecursion (λ e. (e.0 ≡ 0) ⊎ (e.0 ≡ 1)) es

-- each comes no earlier than the one before it, and at the same time at no lower side
abbrev pub InTurn : ℕ → ℕ → List Element → Type 0
InTurn time side [] = Unit {0}
InTurn time side (e ∷ es) = ((time ≤ (e.1).time) × (time ≡ (e.1).time → side ≤ e.0)) × InTurn (e.1).time e.0 es

-- the port of the last item, 0 before the first
abbrev pub position_port : Position → ℕ
position_port Start = 0
position_port (At time port marked) = port
