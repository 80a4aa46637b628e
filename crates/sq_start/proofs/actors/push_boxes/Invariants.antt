use Rattle.std.proofs.Common.{◌≡◌, ℕ, length}
use Rattle.sq_start.specs.NewOperators.{AreStarted}
use Rattle.sq_start.proofs.actors.push_boxes.Given as goal

abbrev pub invariant-loop-b : goal.invariant-loop-b
invariant-loop-b l = record {
  count : length l.actors.items ≡ l.b;
  started : (seed : ℕ) → AreStarted l.n seed l.actors.items;
}
