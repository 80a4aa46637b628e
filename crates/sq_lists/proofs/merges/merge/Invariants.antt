use Rattle.std.proofs.Common.{◌≡◌, ◌++◌, map, drop}
use Rattle.sq_words.specs.Lists.{ports_from}
use Rattle.sq_lists.proofs.merges.merge.Given as goal

abbrev pub invariant-loop-port : goal.invariant-loop-port
invariant-loop-port l =
    ports_from 0 (map (λ v. v.items) l.ins) ≡ l.pairs.items ++ ports_from l.port (map (λ v. v.items) (drop l.port l.ins))
