use Rattle.std.proofs.Common.{◌≡◌, ℕ, ◌<◌, false}
use Rattle.sq_slices.specs.Reaches.{reach_numbered, is_uncut}
use Rattle.sq_slices.proofs.rounds.uncut_among.Given as goal

abbrev pub invariant-loop-at : goal.invariant-loop-at
invariant-loop-at l = (j : ℕ) → j < l.at → is_uncut l.n l.delay (reach_numbered l.reaches) j ≡ false
