use Rattle.std.proofs.Common.{◌≡◌, ◌∙◌, ap, arith, length, subst, sym}
use Rattle.std.proofs.lemmas.Grind.{common_steps}
use Rattle.sq_graph.specs.Order.{order_of, ComesAfterInputs}
use Rattle.sq_graph.proofs.Placing.{short_on_cycle, order_length, order_acyclic}
use Rattle.sq_graph.proofs.Following.{order_follows}
use Rattle.sq_graph.proofs.order.Goals as goal

pub least_on_cycle-requires-clause-some : goal.least_on_cycle-requires-clause-some
least_on_cycle-requires-clause-some c =
    let long : length c.in_ok-order.order.items ≡ c.len.result = grind (arith, common_steps) in
    let same : length c.in_ok-order.order.items ≡ length (order_of c.args.w.now) = ap length c.in_ok-order.ensures in
    let short = rw c.as_slice.ensures at c.if-len-as_slice.true in
    short_on_cycle c.args.w.now c.requires.wired (omega (arith, long, same, short))

pub returns-clause-all : goal.returns-clause-all
returns-clause-all c =
    let long : length c.in_ok-order.order.items ≡ c.len.result = grind (arith, common_steps) in
    let same : length c.in_ok-order.order.items ≡ length (order_of c.args.w.now) = ap length c.in_ok-order.ensures in
    let full = rw c.as_slice.ensures at c.if-len-as_slice.false in
    same ∙ order_length c.args.w.now (omega (arith, long, same, full))

pub returns-clause-acyclic : goal.returns-clause-acyclic
returns-clause-acyclic c =
    let long : length c.in_ok-order.order.items ≡ c.len.result = grind (arith, common_steps) in
    let same : length c.in_ok-order.order.items ≡ length (order_of c.args.w.now) = ap length c.in_ok-order.ensures in
    let full = rw c.as_slice.ensures at c.if-len-as_slice.false in
    order_acyclic c.args.w.now (omega (arith, long, same, full))

pub returns-clause-follows : goal.returns-clause-follows
returns-clause-follows c = subst (ComesAfterInputs c.args.w.now) (sym c.in_ok-order.ensures) (order_follows c.args.w.now)
