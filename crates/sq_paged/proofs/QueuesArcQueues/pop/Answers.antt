use Rattle.std.proofs.Common.{◌∙◌, ap, ℕ, Option}
use Rattle.std.proofs.Math.ListN.{set}
use Rattle.std.specs.Vec.{with_item}
use Rattle.sq_paged.proofs.LaneLemmas.{lane-read, other-face, popped, popped-face, popped-together}
use Rattle.sq_paged.proofs.QueuesArcQueues.pop.Goals as goal

pub returns-clause-face : goal.returns-clause-face
returns-clause-face g c =
    let is = lane-read c.args.self.now.lanes.items c.take.new.self.lanes.items c.args.arc c.index-lane.result.now (ap (λ v. v.items) c.in-Ok.ensures.lanes) c.requires.there c.index-lane.ensures in
    popped-face c.args.self.now _ c.take.new.self _ (record c.take.new.self { lanes = with_item c.take.new.self.lanes c.args.arc c.popped_lane.result }) c.args.arc c.in-Ok.item c.index-lane.result.now c.popped_lane.result c.requires.together c.in-Ok.ensures.ok
    c.requires.there is (ap (λ v. set v.items c.args.arc c.popped_lane.result) c.in-Ok.ensures.lanes) (c.popped_lane.ensures ∙ ap (λ (o : Option ℕ). popped c.index-lane.result.now o) c.front_time.ensures)

pub returns-clause-faces : goal.returns-clause-faces
returns-clause-faces g c other differ =
    other-face c.args.self.now.lanes.items (with_item c.take.new.self.lanes c.args.arc c.popped_lane.result).items c.args.arc other c.popped_lane.result (ap (λ v. set v.items c.args.arc c.popped_lane.result) c.in-Ok.ensures.lanes) differ

pub returns-clause-together : goal.returns-clause-together
returns-clause-together g c =
    let is = lane-read c.args.self.now.lanes.items c.take.new.self.lanes.items c.args.arc c.index-lane.result.now (ap (λ v. v.items) c.in-Ok.ensures.lanes) c.requires.there c.index-lane.ensures in
    popped-together c.args.self.now _ c.take.new.self _ (record c.take.new.self { lanes = with_item c.take.new.self.lanes c.args.arc c.popped_lane.result }) c.args.arc c.in-Ok.item c.index-lane.result.now c.popped_lane.result c.requires.together c.in-Ok.ensures.ok
    c.requires.there is (ap (λ v. set v.items c.args.arc c.popped_lane.result) c.in-Ok.ensures.lanes) (c.popped_lane.ensures ∙ ap (λ (o : Option ℕ). popped c.index-lane.result.now o) c.front_time.ensures)
