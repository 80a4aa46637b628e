use Rattle.std.proofs.Common.{arith}
use Rattle.sq_seen.proofs.Divisions.{gcd-positive}
use Rattle.sq_seen.proofs.numbers.capped_lcm.Goals as goal

pub nonzero_div-a : goal.nonzero_div-a
nonzero_div-a c = let p = gcd-positive 128 c.args.a c.args.b (omega arith) in omega (arith, p, c.gcd.ensures)
