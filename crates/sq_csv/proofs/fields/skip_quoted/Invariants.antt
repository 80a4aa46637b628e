use Rattle.std.proofs.Common.{◌-◌, length}
use Rattle.sq_csv.specs.Cuts.{stays_quoted}
use Rattle.sq_csv.specs.Lanes.{PassesOver}
use Rattle.sq_csv.proofs.fields.skip_quoted.Given as goal

abbrev pub invariant-loop-at : goal.invariant-loop-at
invariant-loop-at l = PassesOver stays_quoted l.text l.fn.from (l.at, l.ascii)

abbrev pub decreases-loop-at : goal.decreases-loop-at
decreases-loop-at l = length l.text - l.at
