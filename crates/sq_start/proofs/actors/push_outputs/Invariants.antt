use Rattle.std.proofs.Common.{◌≡◌, ℕ, ◌+◌, length}
use Rattle.sq_start.specs.Numbers.{first_output}
use Rattle.sq_start.specs.NewOperators.{AreStarted}
use Rattle.sq_start.proofs.actors.push_outputs.Given as goal

abbrev pub invariant-loop-o : goal.invariant-loop-o
invariant-loop-o l = record {
  count : length l.actors.items ≡ first_output l.n + l.o;
  started : (seed : ℕ) → AreStarted l.n seed l.initial.actors.items → AreStarted l.n seed l.actors.items;
}
