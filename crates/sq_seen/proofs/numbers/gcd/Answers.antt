use Rattle.std.proofs.Common.{◌≡◌, ◌-◌, ◌∙◌, ap, sym, arith}
use Rattle.sq_seen.specs.Numbers.{gcd_within}
use Rattle.sq_seen.proofs.Divisions.{gcd-left, gcd-done}
use Rattle.sq_seen.proofs.numbers.gcd.Goals as goal

pub loop-preserved : goal.loop-preserved
loop-preserved c = gcd-left c.loop.counter c.loop.divided c.loop.by (omega arith) (omega arith) ∙ c.loop.invariant

pub returns-then-by-eq0 : goal.returns-then-by-eq0
returns-then-by-eq0 c =
    let z : c.loop.by ≡ 0 = omega arith in
    sym (gcd-done (128 - c.loop.counter) c.loop.divided) ∙ ap (λ b. gcd_within (128 - c.loop.counter) c.loop.divided b) (sym z) ∙ c.loop.invariant
