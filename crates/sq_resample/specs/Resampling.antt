-- Resample: what it still gives, and the facts that it keeps.
use Rattle.std.specs.Prelude.{ℕ, ◌+◌, ◌≤◌, ◌==◌, nat_le, Bool, if◌then◌else◌, List, ◌++◌, length}
use Rattle.std.specs.List.{AllByRecursion}
use Rattle.sq_value.specs.declared.Value.{Value}
use Rattle.sq_value.specs.declared.Tuple.{Tuple}
use Rattle.sq_item.specs.Things.{Thing}
use Rattle.sq_lists.specs.Sides.{AllNear}
use Rattle.sq_lists.specs.WindowParts.{TimesNotFalling}
use Rattle.sq_lists.specs.Resamples.{resample_of}
use Rattle.sq_oper.specs.Entries.{Entry}
use Rattle.sq_oper.specs.Streams.{things, tuples_at, at_zero}
use Rattle.sq_rounds.specs.Rounds.{HasFieldRoom, first_time_from}

-- what a Resample with these left and right tuples will still give: its list function of them and of those that come
abbrev pub resample_rest : (List Tuple → List Value) → ℕ → List Tuple → List Tuple → List Entry → ℕ → List Thing
resample_rest answers size waiting held future q =
    at_zero q (things (resample_of answers size (waiting ++ tuples_at 0 future) (held ++ tuples_at 1 future)))

-- a left tuple with its answers has 16 values at most
abbrev pub resample_fits : ℕ → ℕ → List Value → Bool
resample_fits width port fields = if port == 0 then nat_le (length fields + width) 16 else port == 1

-- nothing is more than the size before a time
abbrev pub OnlyNear : ℕ → ℕ → List Thing → Type 0
OnlyNear size time things = AllByRecursion (λ thing. time ≤ thing.time + size) things

-- both sides stand in order of time, none is later than a time, each left tuple may go out, and none is past; a right one is
-- held only while the first left one that waits, or else one of that time, is no more than the size after it
pub record IsHeld (width size now : ℕ) (waiting held : List Tuple) : Type 0 where
  pub waits : TimesNotFalling 0 waiting
  pub early : AllByRecursion (λ x. x.time ≤ now) waiting
  pub live : AllNear size now waiting
  pub room : AllByRecursion (HasFieldRoom width) waiting
  pub rises : TimesNotFalling 0 held
  pub past : AllByRecursion (λ y. y.time ≤ now) held
  pub needed : AllNear size (first_time_from now waiting) held
