use Rattle.std.proofs.Common.{◌≡◌, [], map, drop}
use Rattle.sq_rules.specs.Naming.{repeat_after}
use Rattle.sq_rules.proofs.names.first_repeat.Given as goal

abbrev pub invariant-loop-place : goal.invariant-loop-place
invariant-loop-place l = repeat_after (map (λ s. s.now) l.seen.keys) l.place (drop l.place l.names) ≡ repeat_after [] 0 l.names
