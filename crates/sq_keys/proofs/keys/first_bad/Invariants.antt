use Rattle.std.proofs.Common.{◌≡◌, [], drop, take}
use Rattle.sq_keys.specs.Keys.{first_bad}
use Rattle.sq_keys.proofs.keys.first_bad.Given as goal

abbrev pub invariant-loop-at : goal.invariant-loop-at
invariant-loop-at l = first_bad l.sources (take l.at l.pairs) (drop l.at l.pairs) ≡ first_bad l.sources [] l.pairs
