use Rattle.std.proofs.Common.{◌≡◌, ◌+◌, length}
use Rattle.sq_start.specs.NewOperators.{AreStarted}
use Rattle.sq_start.proofs.actors.push_drops.Given as goal

abbrev pub invariant-loop-w : goal.invariant-loop-w
invariant-loop-w l = record {
  count : length l.actors.items ≡ length l.n.boxes + l.w;
  started : AreStarted l.n l.seed l.actors.items;
}
