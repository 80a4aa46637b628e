-- What operators give.
use Rattle.std.specs.Prelude.{ℕ, ◌==◌, ◌≤◌, List, [], ◌∷◌, ◌++◌, if◌then◌else◌}
use Rattle.std.specs.List.{AllByRecursion}
use Rattle.sq_item.specs.declared.Item.{Item}
use Rattle.sq_item.specs.Things.{Thing, spread}
use Rattle.sq_item.specs.SoundItems.{IsSoundItem}

-- what was given at a port, of items that each name their port
abbrev pub given : ℕ → List (ℕ × Item) → List Thing
given port [] = []
given port (out ∷ outs) = (if out.0 == port then spread out.1 else []) ++ given port outs

abbrev pub ItemsSound : List (ℕ × Item) → Type 0
ItemsSound outs = AllByRecursion (λ out. IsSoundItem out.1) outs

-- no time is greater
abbrev pub ThingsUpTo : ℕ → List Thing → Type 0
ThingsUpTo time things = AllByRecursion (λ thing. thing.time ≤ time) things
