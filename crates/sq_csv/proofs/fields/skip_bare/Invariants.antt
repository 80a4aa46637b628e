use Rattle.std.proofs.Common.{◌-◌, length}
use Rattle.sq_csv.specs.Cuts.{joins}
use Rattle.sq_csv.specs.Lanes.{PassesOver}
use Rattle.sq_csv.proofs.fields.skip_bare.Given as goal

abbrev pub invariant-loop-at : goal.invariant-loop-at
invariant-loop-at l = PassesOver joins l.text l.fn.from (l.at, l.ascii)

abbrev pub decreases-loop-at : goal.decreases-loop-at
decreases-loop-at l = length l.text - l.at
