use Rattle.std.proofs.Common.{◌≡◌, ◌++◌, drop, map}
use Rattle.sq_reader.proofs.pairs.push_prefixed.Given as goal

abbrev pub invariant-loop-name : goal.invariant-loop-name
invariant-loop-name l = l.names.items ++ map (λ w. l.letters ++ w) (drop l.name-index l.more) ≡ l.initial.names.items ++ map (λ w. l.letters ++ w) l.more
