use Rattle.std.proofs.Common.{◌≡◌, ℕ, ◌<◌, false}
use Rattle.sq_model.specs.GivenLevels.{needs_at}
use Rattle.sq_model.proofs.drops.is_needed.Given as goal

abbrev pub invariant-loop-b : goal.invariant-loop-b
invariant-loop-b l = (b : ℕ) → b < l.b → needs_at l.levels l.seed l.w l.p l.distance l.t b ≡ false
