use Rattle.std.proofs.Common.{refl, sym, ◌∙◌, arith}
use Rattle.sq_lists.proofs.BufferLemmas.{near-alone, near-before, far-before}
use Rattle.sq_lists.proofs.buffer.is_near_first.Goals as goal

pub returns-then-is_empty-clause-near : goal.returns-then-is_empty-clause-near
returns-then-is_empty-clause-near c = λ e. near-alone c.args.near.now.items c.args.far.now.entries c.requires.order (c.is_empty.ensures.0 c.if-is_empty.true)

pub returns-in-Some-Some-clause-near : goal.returns-in-Some-Some-clause-near
returns-in-Some-Some-clause-near c = λ e.
    let x = c.in-Some-Some.field-0-0.now in
    near-before c.args.near.now.items c.args.far.now.entries x.0 c.in-Some-Some.b.now c.requires.order x (omega (arith, c.in-Some-Some.ensures.variant.0 refl)) c.in-Some-Some.ensures.lookup refl
    c.in-Some-Some.field-0-1-1.now c.in-Some-Some.ensures'.first (sym c.is_before.ensures ∙ e)

pub returns-in-Some-Some-clause-far : goal.returns-in-Some-Some-clause-far
returns-in-Some-Some-clause-far c = λ e.
    let x = c.in-Some-Some.field-0-0.now in
    far-before c.args.near.now.items c.args.far.now.entries x.0 c.in-Some-Some.b.now c.requires.order x (omega (arith, c.in-Some-Some.ensures.variant.0 refl)) c.in-Some-Some.ensures.lookup refl
    c.in-Some-Some.field-0-1-1.now c.in-Some-Some.ensures'.first (sym c.is_before.ensures ∙ e)
