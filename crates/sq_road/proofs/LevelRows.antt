-- The definitions on rows that were worked by hand.
use Rattle.std.proofs.Common.{◌≡◌, [], ◌∷◌, refl}
use Rattle.std.specs.Prelude.{map}
use Rattle.sq_road.specs.Levels.{LevelTable, level_of}

-- epochs 1 and 4 were set, and epochs 2 and 3 were skipped
abbrev table : LevelTable
table = record { epoch = 10; closed = 5; rows = (1, 250 ∷ 500 ∷ []) ∷ (4, 50 ∷ []) ∷ [] }

first_drop : map (λ e. level_of table e 0) (0 ∷ 1 ∷ 2 ∷ 3 ∷ 4 ∷ []) ≡ 0 ∷ 250 ∷ 0 ∷ 0 ∷ 50 ∷ []
first_drop = refl

second_drop : map (λ e. level_of table e 1) (0 ∷ 1 ∷ 2 ∷ 3 ∷ 4 ∷ []) ≡ 0 ∷ 500 ∷ 0 ∷ 0 ∷ 0 ∷ []
second_drop = refl
