use Rattle.sq_csv.specs.Cuts.{below_128, stays_quoted}
use Rattle.sq_csv.specs.Lanes.{PassesOver}
use Rattle.sq_csv.proofs.fields.cut_quote.Given as goal

abbrev pub invariant-loop-at : goal.invariant-loop-at
invariant-loop-at l = PassesOver stays_quoted l.text l.fn.from (l.at, below_128 l.bits)
