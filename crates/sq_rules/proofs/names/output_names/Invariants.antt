use Rattle.std.proofs.Common.{◌≡◌, ◌++◌, length, drop, map}
use Rattle.sq_rules.proofs.names.output_names.Given as goal

abbrev pub invariant-loop-output : goal.invariant-loop-output
invariant-loop-output l = record {
  names : l.names.items ++ map (λ x. x.name) (drop l.output-index l.outputs) ≡ map (λ x. x.name) l.outputs;
  count : length l.names.items ≡ l.output-index;
}
