use Rattle.std.proofs.Common.{◌≡◌, max, ◌++◌, ap, sym, subst, ◌∙◌, rules}
use Rattle.sq_words.specs.Lists.{IsPrefixOf}
use Rattle.sq_oper.specs.Outflow.{given}
use Rattle.sq_oper.specs.Streams.{at_zero}
use Rattle.sq_tagged.specs.TaggedStreams.{bound_in}
use Rattle.sq_windrop.specs.Drops.{decided}
use Rattle.sq_windrop.proofs.StepLemmas.{begun-level, one-new, after-one, one-given}
use Rattle.sq_windrop.proofs.drop.begin_batch.Goals as goal
use Rattle.sq_words.proofs.Results.{OnErr_from}

pub returns-in_err-give_batch-clause-prefix : goal.returns-in_err-give_batch-clause-prefix
returns-in_err-give_batch-clause-prefix g c =
    let d = c.args.with.now in
    let s = c.args.batches.now in
    OnErr_from c.from_residual.result (λ table agrees q.
    let known = begun-level d table s c.args.time c.args.batch c.requires.begun c.args.levels.now c.requires.limits.epoch c.requires.epoch c.requires.level agrees ∙ sym c.level-level.ensures in
    subst (λ l. IsPrefixOf (given q (g.T.Outlet.items c.give_batch.new.out)) (given q (g.T.Outlet.items c.args.out.now) ++ at_zero q l))
    (one-given d table s c.args.time c.args.batch c.requires.begun c.args.fields c.draw_batch-mark.result.0 c.needed-body.result c.max-bound.result (c.draw_batch-mark.ensures.mark table known) (search rules) c.needed-body.ensures)
    (c.in_err-give_batch.ensures.prefix q))

pub returns-clause-given : goal.returns-clause-given
returns-clause-given g c =
    let d = c.args.with.now in
    let s = c.args.batches.now in
    λ table agrees q.
    let known = begun-level d table s c.args.time c.args.batch c.requires.begun c.args.levels.now c.requires.limits.epoch c.requires.epoch c.requires.level agrees ∙ sym c.level-level.ensures in
    c.in_ok-give_batch.ensures.given q
    ∙ ap (λ l. given q (g.T.Outlet.items c.args.out.now) ++ at_zero q l)
    (one-given d table s c.args.time c.args.batch c.requires.begun c.args.fields c.draw_batch-mark.result.0 c.needed-body.result c.max-bound.result (c.draw_batch-mark.ensures.mark table known) (search rules) c.needed-body.ensures)

pub returns-clause-batches : goal.returns-clause-batches
returns-clause-batches g c =
    let d = c.args.with.now in
    let s = c.args.batches.now in
    λ table agrees.
    let known = begun-level d table s c.args.time c.args.batch c.requires.begun c.args.levels.now c.requires.limits.epoch c.requires.epoch c.requires.level agrees ∙ sym c.level-level.ensures in
    let most : c.max-bound.result ≡ max s.bound (bound_in c.draw_batch-mark.result.0) = search rules in
    after-one d table s c.args.time c.args.batch c.requires.begun c.max-bound.result (most ∙ ap (λ m. max s.bound (bound_in m)) (c.draw_batch-mark.ensures.mark table known))

pub returns-clause-drops : goal.returns-clause-drops
returns-clause-drops g c =
    let d = c.args.with.now in
    let s = c.args.batches.now in
    λ table agrees.
    let known = begun-level d table s c.args.time c.args.batch c.requires.begun c.args.levels.now c.requires.limits.epoch c.requires.epoch c.requires.level agrees ∙ sym c.level-level.ensures in
    let old = g.T.Outlet.drops c.args.out.now in
    c.in_ok-give_batch.ensures.drops
    ∙ ap (λ l. old ++ l) (c.draw_batch-mark.ensures.decision table known)
    ∙ ap (λ l. old ++ decided d table l) (sym (one-new d table s c.args.time c.args.batch c.requires.begun))
