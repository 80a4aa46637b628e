use Rattle.std.proofs.Common.{◌≡◌, length}
use Rattle.sq_start.proofs.told.zeros.Given as goal

abbrev pub invariant-loop-lag : goal.invariant-loop-lag
invariant-loop-lag l = length l.lags.items ≡ l._lag
