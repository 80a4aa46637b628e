use Rattle.std.proofs.Common.{◌≡◌, ℕ, ◌+◌, ◌-◌, length, slice_get}
use Rattle.sq_flow.specs.Wiring.{numbers_in}
use Rattle.sq_core.proofs.join.grow.Given as goal

abbrev pub invariant-loop-alloc : goal.invariant-loop-alloc
invariant-loop-alloc l = (r : ℕ) → numbers_in (slice_get l.rows.items r) ≡ numbers_in (slice_get l.fn.rows.items r)

abbrev pub decreases-loop-alloc : goal.decreases-loop-alloc
decreases-loop-alloc l = l.row + 1 - length l.rows.items
