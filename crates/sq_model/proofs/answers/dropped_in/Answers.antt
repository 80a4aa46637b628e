use Rattle.std.proofs.Common.{◌≡◌, ◌∙◌, ◌≤◌, Some, ap, sym, subst}
use Rattle.std.proofs.lemmas.Result.{IfOk-weaker}
use Rattle.sq_value.specs.Values.{IsStream}
use Rattle.sq_model.specs.Shedding.{record_of}
use Rattle.sq_model.specs.GivenLevels.{AreTicks, record_by}
use Rattle.sq_points.proofs.FirstLemmas.{there-in}
use Rattle.sq_model.proofs.ShedLemmas.{place_stream, place_ticks, known_by, record_known}
use Rattle.sq_model.proofs.answers.dropped_in.Goals as goal

pub dropped_batches-requires-clause-ticks : goal.dropped_batches-requires-clause-ticks
dropped_batches-requires-clause-ticks c = subst AreTicks (sym c.at_place-full.ensures) (place_ticks c.args.known.now c.requires.safe c.index-p.result.now.at)

pub dropped_batches-requires-clause-stream : goal.dropped_batches-requires-clause-stream
dropped_batches-requires-clause-stream c = subst IsStream (sym c.at_place-full.ensures) (place_stream c.args.known.now c.requires.safe c.index-p.result.now.at)

pub dropped_batches-requires-clause-known : goal.dropped_batches-requires-clause-known
dropped_batches-requires-clause-known c =
    known_by c.at_place-full.result.now c.args.known.now.levels.epoch c.args.known.now.levels.closed
    (subst AreTicks (sym c.at_place-full.ensures) (place_ticks c.args.known.now c.requires.safe c.index-p.result.now.at))
    (subst (λ z. 1 ≤ z) c.epoch-epoch.ensures.epoch c.epoch-epoch.ensures.lasts) c.requires.safe.closed

pub returns : goal.returns
returns c =
    let k = c.args.known.now in
    let here = there-in k.points.items c.args.w c.index-p.result.now c.requires.there c.index-p.ensures in
    let lasts = subst (λ z. 1 ≤ z) c.epoch-epoch.ensures.epoch c.epoch-epoch.ensures.lasts in
    IfOk-weaker c.dropped_batches.result _ _
    (λ v h r p known at.
    (let both : Some c.index-p.result.now ≡ Some p = sym here ∙ at in
    let same : c.index-p.result.now ≡ p = cc both in
    subst (λ z. v.items ≡ record_of r c.args.w z) same
    (h ∙ ap (record_by k.levels k.seed c.args.w c.index-p.result.now) c.at_place-full.ensures ∙ record_known k r known c.requires.safe lasts c.args.w c.index-p.result.now)))
    c.dropped_batches.ensures
