use Rattle.std.proofs.Common.{◌≡◌, ◌++◌, ◌+◌, length, drop, map}
use Rattle.sq_rules.proofs.names.push_box_names.Given as goal

abbrev pub invariant-loop-b : goal.invariant-loop-b
invariant-loop-b l = record {
  names : l.names.items ++ map (λ x. x.name) (drop l.b-index l.boxes) ≡ l.initial.names.items ++ map (λ x. x.name) l.boxes;
  count : length l.names.items ≡ length l.initial.names.items + l.b-index;
}
