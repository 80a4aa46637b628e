use Rattle.std.proofs.Common.{◌∙◌, Less, Equal, Greater, arith}
use Rattle.sq_groups.proofs.KeyLemmas.{eight_then_rest}
use Rattle.sq_groups.proofs.key.compare_texts.Goals as goal

pub returns-then-first-other : goal.returns-then-first-other
returns-then-first-other c =
    let x = c.in-Some-Some.ensures.cases in
    let y = c.in-Some-Some.ensures'.cases in
    eight_then_rest c.args.a.now c.args.b.now c.in-Some-Some.x.now c.in-Some-Some.xs.now c.in-Some-Some.y.now c.in-Some-Some.ys.now
    c.from_be_bytes-first.result c.from_be_bytes-other.result Less x.0 x.1 y.0 y.1 (omega (arith, x)) (omega (arith, y)) c.type_inv.a c.type_inv.b
    c.from_be_bytes-first.ensures c.from_be_bytes-other.ensures c.if-first-other.true

pub returns-then-other-first : goal.returns-then-other-first
returns-then-other-first c =
    let x = c.in-Some-Some.ensures.cases in
    let y = c.in-Some-Some.ensures'.cases in
    eight_then_rest c.args.a.now c.args.b.now c.in-Some-Some.x.now c.in-Some-Some.xs.now c.in-Some-Some.y.now c.in-Some-Some.ys.now
    c.from_be_bytes-first.result c.from_be_bytes-other.result Greater x.0 x.1 y.0 y.1 (omega (arith, x)) (omega (arith, y)) c.type_inv.a c.type_inv.b
    c.from_be_bytes-first.ensures c.from_be_bytes-other.ensures c.if-other-first.true

pub returns-else-other-first : goal.returns-else-other-first
returns-else-other-first c =
    let x = c.in-Some-Some.ensures.cases in
    let y = c.in-Some-Some.ensures'.cases in
    c.compare_bytes.ensures
    ∙ eight_then_rest c.args.a.now c.args.b.now c.in-Some-Some.x.now c.in-Some-Some.xs.now c.in-Some-Some.y.now c.in-Some-Some.ys.now
    c.from_be_bytes-first.result c.from_be_bytes-other.result Equal x.0 x.1 y.0 y.1 (omega (arith, x)) (omega (arith, y)) c.type_inv.a c.type_inv.b
    c.from_be_bytes-first.ensures c.from_be_bytes-other.ensures (omega (arith, c.if-first-other.false, c.if-other-first.false))
