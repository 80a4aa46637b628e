use Rattle.std.proofs.Common.{◌<◌, ◌++◌, ◌∷◌, ℕ, List, refl, sym, ap, subst, ◌∙◌}
use Rattle.std.proofs.Math.ListN.{length-set}
use Rattle.std.specs.Vec.{with_item}
use Rattle.std.proofs.lemmas.Option.{slice_get_read}
use Rattle.sq_paged.specs.Faces as pages
use Rattle.sq_item.specs.declared.Item.{Item}
use Rattle.sq_pool.specs.Trust.{known}
use Rattle.sq_queue.specs.Faces.{LeadsOr, front_at}
use Rattle.sq_queue.specs.declared.Queues.{Queues}
use Rattle.sq_queue.proofs.LaneLemmas.{popped_lane, popped-lane, other-face, popped-face, face-popped-behind}
use Rattle.sq_queue.proofs.TogetherLemmas.{written-together, own-lane, other-items, taken-items}
use Rattle.sq_queue.proofs.Queues.pop_behind.Goals as goal

pub pop-requires-clause-there : goal.pop-requires-clause-there
pop-requires-clause-there g c = subst (λ (n : ℕ). c.args.arc < n) (sym c.requires.together.arcs) c.requires.there

pub pop-requires-clause-together : goal.pop-requires-clause-together
pop-requires-clause-together g c = c.requires.together.paged

pub returns-in-Err-clause-sound : goal.returns-in-Err-clause-sound
returns-in-Err-clause-sound g c = tt

pub returns-in-Err-clause-face : goal.returns-in-Err-clause-face
returns-in-Err-clause-face g c = tt

pub returns-in-Err-clause-frames : goal.returns-in-Err-clause-frames
returns-in-Err-clause-frames g c = tt

pub returns-in-Err-clause-items : goal.returns-in-Err-clause-items
returns-in-Err-clause-items g c = tt

pub returns-in-Err-clause-first : goal.returns-in-Err-clause-first
returns-in-Err-clause-first g c = tt

pub returns-in-Err-clause-others : goal.returns-in-Err-clause-others
returns-in-Err-clause-others g c = tt

pub returns-in-Err-clause-together : goal.returns-in-Err-clause-together
returns-in-Err-clause-together g c = tt

pub returns-in-Err-clause-faces : goal.returns-in-Err-clause-faces
returns-in-Err-clause-faces g c = λ other differ. refl

pub returns-in-Err-clause-size : goal.returns-in-Err-clause-size
returns-in-Err-clause-size g c = refl

pub returns-in-Err-clause-later : goal.returns-in-Err-clause-later
returns-in-Err-clause-later g c = c.in-Err.ensures.later

pub returns-in-Err-clause-disk : goal.returns-in-Err-clause-disk
returns-in-Err-clause-disk g c = c.in-Err.ensures.disk

pub returns-in-Err-clause-cause : goal.returns-in-Err-clause-cause
returns-in-Err-clause-cause g c = c.in-Err.ensures.cause

pub returns-in-Err-clause-honest : goal.returns-in-Err-clause-honest
returns-in-Err-clause-honest g c = c.in-Err.ensures.honest

pub returns-in-Err-clause-misfit : goal.returns-in-Err-clause-misfit
returns-in-Err-clause-misfit g c = c.in-Err.ensures.misfit

pub returns-in-Err-clause-faults : goal.returns-in-Err-clause-faults
returns-in-Err-clause-faults g c = c.in-Err.ensures.faults

pub head-requires : goal.head-requires
head-requires g c = subst (λ (n : ℕ). c.args.arc < n) (sym (c.in-Ok.ensures.size ∙ c.requires.together.arcs)) c.requires.there

pub returns-clause-sound : goal.returns-clause-sound
returns-clause-sound g c = c.in-Ok.ensures.sound

pub returns-clause-face : goal.returns-clause-face
returns-clause-face g c =
    let q = c.args.self.now in
    let arc = c.args.arc in
    let lane = c.index_mut-lane.result.now in
    let behind = c.time_of-behind.result in
    let new = popped_lane lane behind in
    let was = slice_get_read q.lanes.items _ arc lane refl c.requires.there c.index_mut-lane.ensures.value in
    let empty = ap front_at (sym was) ∙ c.requires.empty in
    let after = pages.paged_face c.pop.new.self arc in
    popped-face q.lanes.items arc lane new c.requires.there was
    (face-popped-behind lane behind (pages.paged_face q.paged arc) after (own-lane q _ arc lane c.requires.together was) empty c.in-Ok.ensures.face (c.time_of-behind.ensures after.ended after.first c.head.ensures))

pub returns-clause-faces : goal.returns-clause-faces
returns-clause-faces g c = λ other differ. other-face c.args.self.now.lanes.items c.args.arc other _ differ

pub returns-clause-size : goal.returns-clause-size
returns-clause-size g c = length-set c.args.self.now.lanes.items c.args.arc _

pub returns-clause-frames : goal.returns-clause-frames
returns-clause-frames g c = c.in-Ok.ensures.frames

pub returns-clause-later : goal.returns-clause-later
returns-clause-later g c = c.in-Ok.ensures.later

pub returns-clause-faults : goal.returns-clause-faults
returns-clause-faults g c = c.in-Ok.ensures.faults

pub returns-clause-items : goal.returns-clause-items
returns-clause-items g c tells =
    let q = c.args.self.now in
    let arc = c.args.arc in
    let lane = c.index_mut-lane.result.now in
    let behind = c.time_of-behind.result in
    let new = popped_lane lane behind in
    let was = slice_get_read q.lanes.items _ arc lane refl c.requires.there c.index_mut-lane.ensures.value in
    let empty = ap front_at (sym was) ∙ c.requires.empty in
    let r : Queues = record { lanes = with_item q.lanes arc new; paged = c.pop.new.self; spares = tt } in
    let told = known (g.D.PageDisk.log c.args.disk.now) in
    let now = known (g.D.PageDisk.log c.pop.new.disk) in
    taken-items q told r now arc lane new c.in-Ok.item c.requires.there was refl
    (ap (λ (xs : List Item). xs ++ pages.paged_items_on q.paged told arc) empty ∙ c.in-Ok.ensures.items tells
    ∙ ap (λ (xs : List Item). c.in-Ok.item ∷ (xs ++ pages.paged_items_on c.pop.new.self now arc)) (sym empty))

pub returns-clause-first : goal.returns-clause-first
returns-clause-first g c =
    let item = c.in-Ok.item in
    let behind = pages.IsFirstPaged c.args.self.now.paged (g.D.PageDisk.log c.args.disk.now) (g.D.PageDisk.log c.pop.new.disk) c.args.arc item in
    subst (λ (front : List Item). LeadsOr front item behind) (sym c.requires.empty) c.in-Ok.ensures.first

pub returns-clause-others : goal.returns-clause-others
returns-clause-others g c tells other differ =
    let q = c.args.self.now in
    let new = popped_lane c.index_mut-lane.result.now c.time_of-behind.result in
    let r : Queues = record { lanes = with_item q.lanes c.args.arc new; paged = c.pop.new.self; spares = tt } in
    other-items q (known (g.D.PageDisk.log c.args.disk.now)) r (known (g.D.PageDisk.log c.pop.new.disk)) c.args.arc other new refl differ (c.in-Ok.ensures.others tells other differ)

pub returns-clause-disk : goal.returns-clause-disk
returns-clause-disk g c = tt

pub returns-clause-cause : goal.returns-clause-cause
returns-clause-cause g c = tt

pub returns-clause-honest : goal.returns-clause-honest
returns-clause-honest g c = tt

pub returns-clause-misfit : goal.returns-clause-misfit
returns-clause-misfit g c = tt

pub returns-clause-together : goal.returns-clause-together
returns-clause-together g c =
    let q = c.args.self.now in
    let arc = c.args.arc in
    let lane = c.index_mut-lane.result.now in
    let behind = c.time_of-behind.result in
    let new = popped_lane lane behind in
    let r : Queues = record { lanes = with_item q.lanes arc new; paged = c.pop.new.self; spares = tt } in
    let after = pages.paged_face c.pop.new.self arc in
    written-together q _ r _ arc lane new c.requires.together c.in-Ok.ensures.together c.in-Ok.ensures.size c.requires.there
    (slice_get_read q.lanes.items _ arc lane refl c.requires.there c.index_mut-lane.ensures.value) refl c.in-Ok.ensures.faces
    (λ own. popped-lane lane behind (pages.paged_face q.paged arc) after own c.in-Ok.ensures.face (c.time_of-behind.ensures after.ended after.first c.head.ensures))
