use Rattle.std.proofs.Common.{◌≡◌, ℕ, ◌<◌, ◌≤◌, drop}
use Rattle.sq_model.specs.Epochs.{count_in}
use Rattle.sq_model.proofs.epochs.next_in.Given as goal

abbrev pub invariant-loop-x : goal.invariant-loop-x
invariant-loop-x l = record {
  later : l.ended < l.first;
  low : l.first ≤ l.next;
  none : (e : ℕ) → l.ended < e → e < l.first → count_in l.epoch e l.tuples ≡ count_in l.epoch e (drop l.x-index l.tuples);
}
