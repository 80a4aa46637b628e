use Rattle.std.proofs.Common.{ap, refl, Some}
use Rattle.std.proofs.Math.ListN.{set}
use Rattle.std.specs.Vec.{with_item}
use Rattle.sq_paged.specs.declared.Lane.{Lane}
use Rattle.sq_paged.proofs.LaneLemmas.{lane-read, pushed-is, pushed-together}
use Rattle.sq_paged.proofs.QueuesArcQueues.push.Goals as goal

pub returns-clause-together : goal.returns-clause-together
returns-clause-together g c =
    let is = lane-read c.args.self.now.lanes.items c.args.self.now.lanes.items c.args.arc c.index-lane.result.now refl c.requires.there c.index-lane.ensures in
    let new : Lane = record { count = c.in-Some.count; first = Some c.unwrap_or.result; last = Some c.in-Ok.node; ended = c.index-lane.result.now.ended } in
    pushed-together c.args.self.now _ c.add.new.self _ (record c.add.new.self { lanes = with_item c.add.new.self.lanes c.args.arc new }) c.args.arc c.in-Ok.node c.args.item.now c.index-lane.result.now new c.requires.together c.in-Ok.ensures.ok c.requires.there is
    (ap (λ v. set v.items c.args.arc new) c.in-Ok.ensures.lanes)
    (pushed-is c.index-lane.result.now (Some c.in-Ok.node) c.args.item.now.time c.in-Some.count c.unwrap_or.result c.in-Some.ensures.1 c.unwrap_or.ensures) refl
