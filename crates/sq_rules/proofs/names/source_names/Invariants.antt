use Rattle.std.proofs.Common.{◌≡◌, ◌++◌, length, drop, map}
use Rattle.sq_rules.proofs.names.source_names.Given as goal

abbrev pub invariant-loop-source : goal.invariant-loop-source
invariant-loop-source l = record {
  names : l.names.items ++ map (λ x. x.name) (drop l.source-index l.sources) ≡ map (λ x. x.name) l.sources;
  count : length l.names.items ≡ l.source-index;
}
