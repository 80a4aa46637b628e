use Rattle.std.proofs.Common.{◌≡◌, drop}
use Rattle.sq_value.specs.Values.{kinds_fit}
use Rattle.sq_flow.proofs.taking.kinds_fit.Given as goal

abbrev pub invariant-loop-at : goal.invariant-loop-at
invariant-loop-at l = kinds_fit (drop l.at l.kinds) (drop l.at l.values) ≡ kinds_fit l.kinds l.values
