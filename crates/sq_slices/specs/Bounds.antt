-- Reaches that are small enough to be counted with.
use Rattle.std.specs.Prelude.{ℕ, ◌≤◌, ◌^◌, List, Option}
use Rattle.std.specs.Option.{IfSome}
use Rattle.sq_slices.specs.declared.Reach.{Reach}
use Rattle.sq_slices.specs.Grids.{IsGrid}
use Rattle.sq_slices.specs.Reaches.{reach_numbered}

pub record IsLow (most : ℕ) (r : Reach) : Type 0 where
  pub grid : IsGrid r.cuts
  pub step : r.cuts.step ≤ 2 ^ 32
  pub back : r.back ≤ most
  pub ahead : r.ahead ≤ most

abbrev pub AreLow : ℕ → List (Option Reach) → Type 0
AreLow most reaches = (i : ℕ) → IfSome (reach_numbered reaches i) (IsLow most)
