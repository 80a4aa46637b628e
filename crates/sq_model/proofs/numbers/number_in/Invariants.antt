use Rattle.std.proofs.Common.{◌≡◌, ◌+◌, ◌-◌, ◌*◌, ◌^◌, ◌≤◌, map, length, drop}
use Rattle.std.specs.List.{sum_by}
use Rattle.sq_model.proofs.numbers.number_in.Given as goal
use Rattle.sq_words.specs.Lists.{nth}

abbrev pub invariant-loop-stream : goal.invariant-loop-stream
invariant-loop-stream l = record {
  sum : l.number + sum_by (λ s. length (nth (map (λ v. v.items) l.streams) s)) (drop l.stream-index l.inputs)
      ≡ sum_by (λ s. length (nth (map (λ v. v.items) l.streams) s)) l.inputs;
  few : 8 * l.number ≤ l.stream-index * (2 ^ 64 - 1);
}
