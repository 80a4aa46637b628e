use Rattle.std.proofs.Common.{true, refl}
use Rattle.std.specs.Vec.{with_item}
use Rattle.std.proofs.lemmas.Option.{slice_get_read}
use Rattle.sq_queue.specs.declared.FrontLane.{FrontLane}
use Rattle.sq_queue.proofs.TogetherLemmas.{written-together}
use Rattle.sq_queue.proofs.QueuesArcQueues.end.Goals as goal

pub returns-clause-together : goal.returns-clause-together
returns-clause-together c told g =
    let q = c.args.self.now in
    let lane = c.index_mut.result.now in
    let new : FrontLane = record lane { ended = true } in
    written-together q told (record q { lanes = with_item q.lanes c.args.arc new }) told c.args.arc lane new g g.paged refl c.requires
    (slice_get_read q.lanes.items _ c.args.arc lane refl c.requires c.index_mut.ensures.value) refl (λ other differ. refl)
    (λ own. record { count = own.count; behind = own.behind; runs = own.runs; few = own.few; held = own.held; page = own.page; sound = own.sound })
