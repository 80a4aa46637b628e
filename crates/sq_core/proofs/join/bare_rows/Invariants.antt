use Rattle.std.proofs.Common.{◌≡◌, ℕ, [], length, slice_get}
use Rattle.sq_flow.specs.Wiring.{numbers_in}
use Rattle.sq_core.proofs.join.bare_rows.Given as goal

abbrev pub invariant-loop-row : goal.invariant-loop-row
invariant-loop-row l =
    record {
      len : length l.rows.items ≡ l._row;
      empty : (r : ℕ) → numbers_in (slice_get l.rows.items r) ≡ [];
    }
