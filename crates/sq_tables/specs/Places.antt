-- Places, and the first of some answers.
use Rattle.std.specs.Prelude.{ℕ, Option, Some, None}
use Rattle.sq_net.specs.declared.Part.{Part}
use Rattle.sq_net.specs.declared.Place.{Place}

abbrev pub place_at : Part → ℕ → ℕ → Place
place_at p n i = record { part = p; number = n; item = i }

-- the place of a part as a whole
abbrev pub part_place : Part → ℕ → Place
part_place p n = place_at p n 0

abbrev pub or_else : {A : Type 0} → Option A → Option A → Option A
or_else (Some x) more = Some x
or_else None more = more
