-- Aggregate as a machine: for each tick the bound that holds there, the marks of that time, and the groups of the window: words of the proofs alone.
use Rattle.std.specs.Prelude.{Bool, ℕ, [], ◌+◌, if◌then◌else◌}
use Rattle.sq_agg.specs.Slots.{Slot}
use Rattle.sq_agg.specs.Positions.{View}

-- before anything came: without marks every window is allowed, below a drop none is
abbrev pub first_bound : Bool → ℕ → ℕ
first_bound marked p = if marked then 0 else p + 1

abbrev pub first_view : {M : Type 0} → Bool → View (Slot M)
first_view marked = record { now = 0; at = λ p. record { bound = first_bound marked p; marks = []; groups = [] } }
