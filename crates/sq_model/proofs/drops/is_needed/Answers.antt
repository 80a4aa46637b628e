use Rattle.std.proofs.Common.{◌∙◌, ◌+◌, ◌/◌, ◌<◌, sym, subst, below_more, arith}
use Rattle.sq_model.specs.GivenLevels.{needs_at}
use Rattle.sq_model.proofs.BatchLemmas.{batch_small, needed_any, too_early, any_none}
use Rattle.sq_model.proofs.drops.is_needed.Goals as goal
use Rattle.sq_words.proofs.Ranges.{any_in_range}

pub overflow_add-b-end : goal.overflow_add-b-end
overflow_add-b-end c =
    let small = batch_small (c.args.t / c.args.p.now.length) c.args.t c.args.p.now.length c.requires.measured.least (omega arith) c.requires.tick in
    omega (arith, small)

pub loop-b-init : goal.loop-b-init
loop-b-init c = λ b lt. too_early c.args.levels.now c.args.seed c.args.w c.args.p.now c.args.distance c.args.t b c.requires.measured.least (subst (λ z. b < z / c.args.p.now.length) c.saturating_sub.ensures lt)

pub loop-b-preserved : goal.loop-b-preserved
loop-b-preserved c = below_more _ _ c.loop-b.invariant (sym c.needs.ensures ∙ c.if-needs.false)

pub returns-then-needs : goal.returns-then-needs
returns-then-needs c =
    sym
    (needed_any c.args.levels.now c.args.seed c.args.w c.args.p.now c.args.distance c.args.t
    ∙ any_in_range (needs_at c.args.levels.now c.args.seed c.args.w c.args.p.now c.args.distance c.args.t) 0 (c.args.t / c.args.p.now.length + 1) c.loop-b.b (omega arith) (omega (arith, c.loop-b-test.true)) (sym c.needs.ensures ∙ c.if-needs.true))

pub returns : goal.returns
returns c =
    sym
    (needed_any c.args.levels.now c.args.seed c.args.w c.args.p.now c.args.distance c.args.t
    ∙ any_none (needs_at c.args.levels.now c.args.seed c.args.w c.args.p.now c.args.distance c.args.t) 0 (c.args.t / c.args.p.now.length + 1) (λ b lt. c.loop-b.invariant b (let done = c.loop-b-test.false in omega (arith, lt, done))))
