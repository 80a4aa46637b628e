-- The order of steps is one.
use Rattle.std.proofs.Common.{ℕ, ◌*◌, ◌<◌, ◌≤◌, arith}
use Rattle.std.specs.Cmp.{IsStrictWeakOrder}
use Rattle.std.proofs.Math.Nat.{le_of_mul-le-mul_left, mul-le-mul_left}
use Rattle.std.proofs.lemmas.Bool.Decides.{nat_tests}
use Rattle.std.proofs.lemmas.Bool.{ltb-false, le-ltb}
use Rattle.sq_offers.specs.Offers.{is_cheaper_offer}

-- at least as dear as one that is at least as dear as a third
pub cross_chain : (a g b h c i : ℕ) → 0 < h → b * g ≤ a * h → c * h ≤ b * i → c * g ≤ a * i
cross_chain a g b h c i pos p q =
    let left : h * (c * g) ≤ g * (b * i) = (let k = mul-le-mul_left g q in omega arith) in
    let right : g * (b * i) ≤ h * (a * i) = (let k = mul-le-mul_left i p in omega arith) in
    le_of_mul-le-mul_left (let both : h * (c * g) ≤ h * (a * i) = omega arith in both) pos

pub offers_rank : IsStrictWeakOrder is_cheaper_offer
offers_rank = record {
  one_way = λ x y h. grind (arith, nat_tests);
  chain = λ x y z p q.
      let a = ltb-false (x.loss * y.gain) (y.loss * x.gain) p in
      let b = ltb-false (y.loss * z.gain) (z.loss * y.gain) q in
      let pos : 0 < y.gain = (let g = y.gains in omega arith) in
      le-ltb (x.loss * z.gain) (z.loss * x.gain) (cross_chain x.loss x.gain y.loss y.gain z.loss z.gain pos a b);
}
