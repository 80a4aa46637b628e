use Rattle.std.proofs.Common.{◌≡◌, ◌-◌}
use Rattle.sq_seen.specs.Numbers.{gcd_within, gcd_of}
use Rattle.sq_seen.proofs.numbers.gcd.Given as goal

abbrev pub invariant-loop : goal.invariant-loop
invariant-loop l = gcd_within (128 - l.counter) l.divided l.by ≡ gcd_of l.a l.b
