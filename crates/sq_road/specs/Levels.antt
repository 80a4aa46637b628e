-- Levels: how many permille of its batches each drop throws away, epoch by epoch.
--     LevelTable                      what is known: the length of an epoch in ticks, the first epoch that isn't closed, and the levels that were set
--     level_of table e w              the level of drop w in epoch e, 0 where none was set
--     Agrees table levels             levels, a function that gives every epoch and drop a level, goes on from the closed epochs
use Rattle.std.specs.Prelude.{◌≡◌, ℕ, ◌<◌, ◌==◌, List, [], unwrap_or, slice_index}
use Rattle.std.specs.List.{AllByRecursion}
use Rattle.std.specs.Map.{lookup}

-- an epoch with the levels of drops 0, 1, ..
abbrev pub Rows : Type 0
Rows = List (ℕ × List ℕ)

-- the levels of the epochs below `closed`: those of the rows, and 0 in the epochs and at the drops that they leave out
pub record LevelTable : Type 0 where
  pub epoch : ℕ
  pub closed : ℕ
  pub rows : Rows

-- every row is of an epoch below this one
abbrev pub AreBelow : ℕ → Rows → Type 0
AreBelow e rows = AllByRecursion (λ r. r.0 < e) rows

-- the levels that were set for an epoch
abbrev pub row_at : Rows → ℕ → List ℕ
row_at rows e = unwrap_or (lookup (λ x. x == e) rows) []

abbrev pub level_of : LevelTable → ℕ → ℕ → ℕ
level_of table e w = slice_index (row_at table.rows e) w

abbrev pub AgreesWith : LevelTable → (ℕ → ℕ → ℕ) → Type 0
AgreesWith table levels = (e w : ℕ) → e < table.closed → levels e w ≡ level_of table e w
