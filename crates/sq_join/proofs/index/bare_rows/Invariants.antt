use Rattle.std.proofs.Common.{◌≡◌, ℕ, [], length, slice_get}
use Rattle.sq_join.specs.Indexes.{positions_in}
use Rattle.sq_join.proofs.index.bare_rows.Given as goal

abbrev pub invariant-loop-row : goal.invariant-loop-row
invariant-loop-row l = record {
  len : length l.rows.items ≡ l._row;
  bare : (row : ℕ) → positions_in (slice_get l.rows.items row) ≡ [];
}
