use Rattle.std.proofs.Common.{ℕ, drop}
use Rattle.sq_oper.specs.Streams.{things, at_zero}
use Rattle.sq_lists.specs.Sides.{pairs_with}
use Rattle.sq_join.proofs.sides.give_pairs.Goals as goal
use Rattle.sq_oper.proofs.GivingLemmas.{none-went, some-rest}

pub returns-in_err-give_pair : goal.returns-in_err-give_pair
returns-in_err-give_pair g c =
    let inv = c.loop-i.invariant in
    let r = c.from_residual in
    let left = λ (q : ℕ). at_zero q (things (pairs_with c.args.on.now.tree c.args.side c.args.x.now (drop c.loop-i.i c.args.others.now.items))) in
    some-rest g.T.Outlet _ left _ _ _ r.result inv.given inv.sound inv.extends inv.drops inv.came
    (none-went g.T.Outlet _ _ left _ _ _ r.result r.ensures.1 c.in_err-give_pair.ensures)
