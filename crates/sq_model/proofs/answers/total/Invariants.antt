use Rattle.std.proofs.Common.{◌≡◌, ◌+◌, ◌*◌, ◌-◌, ◌^◌, ◌≤◌, drop}
use Rattle.std.specs.List.{sum_by}
use Rattle.sq_model.proofs.answers.total.Given as goal

abbrev pub invariant-loop-number : goal.invariant-loop-number
invariant-loop-number l = record {
  sum : l.sum + sum_by (λ k. k) (drop l.number-index l.numbers) ≡ sum_by (λ k. k) l.numbers;
  few : l.sum ≤ l.number-index * (2 ^ 64 - 1);
}
