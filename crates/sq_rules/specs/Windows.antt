-- The rule on the windows of Aggregates.
use Rattle.std.specs.Prelude.{◌*ℤ◌, ◌^◌, Bool, true, not, ◌&&◌, ℤ, pos, int_le, Option, option_map}
use Rattle.sq_net.specs.declared.Part.TheVariants as part
use Rattle.sq_net.specs.declared.Place.{Place}
use Rattle.sq_tables.specs.declared.tables.BodyTable.{BodyTable}
use Rattle.sq_tables.specs.declared.tables.BodyTable.TheVariants.{Aggregate}
use Rattle.sq_tables.specs.declared.tables.NetworkTable.{NetworkTable}
use Rattle.sq_tables.specs.Places.{part_place}
use Rattle.sq_rules.specs.Limits.{first_failing}

-- an advance of at least 1 and at most the size, which is at most 2^32 and at most 4096 advances
abbrev pub is_span : ℤ → ℤ → Bool
is_span size advance =
    int_le (pos 1) advance && int_le advance size && int_le size (pos (2 ^ 32)) && int_le size (pos 4096 *ℤ advance)

-- and a phase below the advance
abbrev pub is_window : ℤ → ℤ → ℤ → Bool
is_window size advance phase = is_span size advance && int_le (pos 0) phase && not (int_le advance phase)

abbrev pub has_window : BodyTable → Bool
has_window (Aggregate size advance phase group give) = is_window size advance phase
has_window b = true

-- the first Aggregate whose size, advance and phase are no window
abbrev pub window_place : NetworkTable → Option Place
window_place r = option_map (part_place part.Box) (first_failing (λ b. has_window b.body) r.boxes)
