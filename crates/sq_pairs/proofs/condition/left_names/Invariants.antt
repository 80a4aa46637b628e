use Rattle.std.proofs.Common.{◌≡◌, ◌+◌, ◌≤◌, ◌∷◌, [], drop, length, take}
use Rattle.std.specs.List.{filter}
use Rattle.sq_words.specs.Lists.{same_bytes}
use Rattle.sq_pairs.proofs.condition.left_names.Given as goal

abbrev pub invariant-loop-name : goal.invariant-loop-name
invariant-loop-name l = record {
  some : l.count ≤ l.name-index;
  counted : l.count + length (filter (λ name. same_bytes (take 2 name) (108 ∷ 95 ∷ [])) (drop l.name-index l.names))
      ≡ length (filter (λ name. same_bytes (take 2 name) (108 ∷ 95 ∷ [])) l.names);
}
