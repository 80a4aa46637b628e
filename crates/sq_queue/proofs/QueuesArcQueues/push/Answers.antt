use Rattle.std.proofs.Common.{[], ◌∷◌, ◌++◌, ap, ◌∙◌, ◌<◌, ℕ, List, Some, refl, sym, subst, append_assoc}
use Rattle.sq_item.specs.declared.Item.{Item}
use Rattle.sq_pool.specs.Trust.{known}
use Rattle.sq_pool.proofs.TrustLemmas.{IsLater-refl}
use Rattle.sq_paged.specs.Fronts.{pushed}
use Rattle.sq_queue.specs.Faces.{face, items_on}
use Rattle.sq_queue.proofs.RefusalLemmas.{on-refused, if-refused, memory-no-disk, memory-refusal, memory-told, memory-no-misfit}
use Rattle.std.proofs.Math.ListN.{length-set}
use Rattle.std.specs.Vec.{with_item}
use Rattle.std.proofs.lemmas.Option.{slice_get_read}
use Rattle.sq_paged.specs.Faces as pages
use Rattle.sq_queue.specs.declared.FrontLane.{FrontLane}
use Rattle.sq_queue.specs.declared.Queues.{Queues}
use Rattle.sq_queue.proofs.LaneLemmas.{other-face, pushed-face, face-pushed-behind, pushed-behind}
use Rattle.sq_queue.proofs.TogetherLemmas.{written-together, written-items, other-items}
use Rattle.sq_queue.proofs.QueuesArcQueues.push.Goals as goal

pub copy_item-requires : goal.copy_item-requires
copy_item-requires g c = c.requires.sound

pub returns-in_err-copy-clause-face : goal.returns-in_err-copy-clause-face
returns-in_err-copy-clause-face g c = on-refused _ c.from_residual.result c.from_residual.ensures.0

pub returns-in_err-copy-clause-frames : goal.returns-in_err-copy-clause-frames
returns-in_err-copy-clause-frames g c = on-refused _ c.from_residual.result c.from_residual.ensures.0

pub returns-in_err-copy-clause-items : goal.returns-in_err-copy-clause-items
returns-in_err-copy-clause-items g c = on-refused _ c.from_residual.result c.from_residual.ensures.0

pub returns-in_err-copy-clause-others : goal.returns-in_err-copy-clause-others
returns-in_err-copy-clause-others g c = on-refused _ c.from_residual.result c.from_residual.ensures.0

pub returns-in_err-copy-clause-together : goal.returns-in_err-copy-clause-together
returns-in_err-copy-clause-together g c = on-refused _ c.from_residual.result c.from_residual.ensures.0

pub returns-in_err-copy-clause-disk : goal.returns-in_err-copy-clause-disk
returns-in_err-copy-clause-disk g c = if-refused c.from_residual.result (λ e memory disk. memory-no-disk e memory disk) c.from_residual.ensures.1

pub returns-in_err-copy-clause-cause : goal.returns-in_err-copy-clause-cause
returns-in_err-copy-clause-cause g c = if-refused c.from_residual.result (λ e memory. memory-refusal c.args.self.now c.args.self.now (g.D.PageDisk.log c.args.disk.now) (g.D.PageDisk.log c.args.disk.now) c.args.arc e memory) c.from_residual.ensures.1

pub returns-in_err-copy-clause-honest : goal.returns-in_err-copy-clause-honest
returns-in_err-copy-clause-honest g c = if-refused c.from_residual.result (λ e memory honest. memory-told e memory) c.from_residual.ensures.1

pub returns-in_err-copy-clause-misfit : goal.returns-in_err-copy-clause-misfit
returns-in_err-copy-clause-misfit g c = if-refused c.from_residual.result (λ e memory tells. memory-no-misfit e memory) c.from_residual.ensures.1

pub returns-in_err-copy-clause-later : goal.returns-in_err-copy-clause-later
returns-in_err-copy-clause-later g c = IsLater-refl _

pub returns-in_err-put-clause-face : goal.returns-in_err-put-clause-face
returns-in_err-put-clause-face g c = on-refused _ c.from_residual-in_err-put.result c.from_residual-in_err-put.ensures.0

pub returns-in_err-put-clause-frames : goal.returns-in_err-put-clause-frames
returns-in_err-put-clause-frames g c = on-refused _ c.from_residual-in_err-put.result c.from_residual-in_err-put.ensures.0

pub returns-in_err-put-clause-items : goal.returns-in_err-put-clause-items
returns-in_err-put-clause-items g c = on-refused _ c.from_residual-in_err-put.result c.from_residual-in_err-put.ensures.0

pub returns-in_err-put-clause-others : goal.returns-in_err-put-clause-others
returns-in_err-put-clause-others g c = on-refused _ c.from_residual-in_err-put.result c.from_residual-in_err-put.ensures.0

pub returns-in_err-put-clause-together : goal.returns-in_err-put-clause-together
returns-in_err-put-clause-together g c = on-refused _ c.from_residual-in_err-put.result c.from_residual-in_err-put.ensures.0

pub returns-in_err-put-clause-disk : goal.returns-in_err-put-clause-disk
returns-in_err-put-clause-disk g c = if-refused c.from_residual-in_err-put.result (λ e memory disk. memory-no-disk e memory disk) c.from_residual-in_err-put.ensures.1

pub returns-in_err-put-clause-cause : goal.returns-in_err-put-clause-cause
returns-in_err-put-clause-cause g c = if-refused c.from_residual-in_err-put.result (λ e memory. memory-refusal c.args.self.now c.put.new.self (g.D.PageDisk.log c.args.disk.now) (g.D.PageDisk.log c.args.disk.now) c.args.arc e memory) c.from_residual-in_err-put.ensures.1

pub returns-in_err-put-clause-honest : goal.returns-in_err-put-clause-honest
returns-in_err-put-clause-honest g c = if-refused c.from_residual-in_err-put.result (λ e memory honest. memory-told e memory) c.from_residual-in_err-put.ensures.1

pub returns-in_err-put-clause-misfit : goal.returns-in_err-put-clause-misfit
returns-in_err-put-clause-misfit g c = if-refused c.from_residual-in_err-put.result (λ e memory tells. memory-no-misfit e memory) c.from_residual-in_err-put.ensures.1

pub returns-in_err-put-clause-later : goal.returns-in_err-put-clause-later
returns-in_err-put-clause-later g c = IsLater-refl _

pub returns-then-has_room-clause-face : goal.returns-then-has_room-clause-face
returns-then-has_room-clause-face g c = c.in_ok-put.ensures.face ∙ ap (λ (item : Item). pushed (face c.args.self.now c.args.arc) item.time) c.in_ok-copy.ensures.copy

pub returns-then-has_room-clause-items : goal.returns-then-has_room-clause-items
returns-then-has_room-clause-items g c = λ tells.
    let told = known (g.D.PageDisk.log c.args.disk.now) in
    c.in_ok-put.ensures.items told c.requires.together ∙ ap (λ (item : Item). items_on c.args.self.now told c.args.arc ++ item ∷ []) c.in_ok-copy.ensures.copy

pub returns-then-has_room-clause-others : goal.returns-then-has_room-clause-others
returns-then-has_room-clause-others g c = λ tells other differ. c.in_ok-put.ensures.others (known (g.D.PageDisk.log c.args.disk.now)) other differ

pub returns-then-has_room-clause-together : goal.returns-then-has_room-clause-together
returns-then-has_room-clause-together g c = c.in_ok-put.ensures.together (known (g.D.PageDisk.log c.args.disk.now)) c.requires.together

pub returns-then-has_room-clause-later : goal.returns-then-has_room-clause-later
returns-then-has_room-clause-later g c = IsLater-refl _

pub put-requires-clause-room : goal.put-requires-clause-room
put-requires-clause-room g c = c.has_room.ensures.0 c.if-has_room.true

pub put-requires-clause-sound : goal.put-requires-clause-sound
put-requires-clause-sound g c = c.in_ok-copy.ensures.sound

pub returns-in_default-clause-face : goal.returns-in_default-clause-face
returns-in_default-clause-face g c = tt

pub returns-in_default-clause-frames : goal.returns-in_default-clause-frames
returns-in_default-clause-frames g c = tt

pub returns-in_default-clause-items : goal.returns-in_default-clause-items
returns-in_default-clause-items g c = tt

pub returns-in_default-clause-others : goal.returns-in_default-clause-others
returns-in_default-clause-others g c = tt

pub returns-in_default-clause-together : goal.returns-in_default-clause-together
returns-in_default-clause-together g c = tt

pub returns-in_default-clause-faces : goal.returns-in_default-clause-faces
returns-in_default-clause-faces g c = λ other differ. other-face c.args.self.now.lanes.items c.args.arc other _ differ

pub returns-in_default-clause-size : goal.returns-in_default-clause-size
returns-in_default-clause-size g c = length-set c.args.self.now.lanes.items c.args.arc _

pub returns-in_default-clause-later : goal.returns-in_default-clause-later
returns-in_default-clause-later g c = IsLater-refl _

pub returns-in_default-clause-cause : goal.returns-in_default-clause-cause
returns-in_default-clause-cause g c = tt

pub returns-in_default-clause-honest : goal.returns-in_default-clause-honest
returns-in_default-clause-honest g c honest = tt

pub returns-in_default-clause-misfit : goal.returns-in_default-clause-misfit
returns-in_default-clause-misfit g c tells = tt

pub push-requires-clause-there : goal.push-requires-clause-there
push-requires-clause-there g c = subst (λ (n : ℕ). c.args.arc < n) (sym c.requires.together.arcs) c.requires.there

pub push-requires-clause-open : goal.push-requires-clause-open
push-requires-clause-open g c = (c.requires.together.lanes c.args.arc).runs

pub push-requires-clause-sound : goal.push-requires-clause-sound
push-requires-clause-sound g c = c.requires.sound

pub push-requires-clause-together : goal.push-requires-clause-together
push-requires-clause-together g c = c.requires.together.paged

pub returns-in-Err-clause-face : goal.returns-in-Err-clause-face
returns-in-Err-clause-face g c = tt

pub returns-in-Err-clause-frames : goal.returns-in-Err-clause-frames
returns-in-Err-clause-frames g c = tt

pub returns-in-Err-clause-items : goal.returns-in-Err-clause-items
returns-in-Err-clause-items g c = tt

pub returns-in-Err-clause-others : goal.returns-in-Err-clause-others
returns-in-Err-clause-others g c = tt

pub returns-in-Err-clause-together : goal.returns-in-Err-clause-together
returns-in-Err-clause-together g c = tt

pub returns-in-Err-clause-faces : goal.returns-in-Err-clause-faces
returns-in-Err-clause-faces g c = λ other differ. other-face c.args.self.now.lanes.items c.args.arc other _ differ

pub returns-in-Err-clause-size : goal.returns-in-Err-clause-size
returns-in-Err-clause-size g c = length-set c.args.self.now.lanes.items c.args.arc _

pub returns-in-Err-clause-later : goal.returns-in-Err-clause-later
returns-in-Err-clause-later g c = c.in-Err.ensures.later

pub returns-in-Err-clause-disk : goal.returns-in-Err-clause-disk
returns-in-Err-clause-disk g c = c.in-Err.ensures.disk

pub returns-in-Err-clause-cause : goal.returns-in-Err-clause-cause
returns-in-Err-clause-cause g c = c.in-Err.ensures.cause

pub returns-in-Err-clause-honest : goal.returns-in-Err-clause-honest
returns-in-Err-clause-honest g c = c.in-Err.ensures.honest

pub returns-in-Err-clause-misfit : goal.returns-in-Err-clause-misfit
returns-in-Err-clause-misfit g c = c.in-Err.ensures.misfit

pub returns-in-Err-clause-faults : goal.returns-in-Err-clause-faults
returns-in-Err-clause-faults g c = c.in-Err.ensures.faults

pub returns-clause-face : goal.returns-clause-face
returns-clause-face g c =
    let q = c.args.self.now in
    let arc = c.args.arc in
    let lane = c.index_mut-lane.result.now in
    let new : FrontLane = record lane { count = c.in-Some.count; behind = Some c.unwrap_or.result } in
    pushed-face q.lanes.items arc lane new c.args.item.now.time c.requires.there (slice_get_read q.lanes.items _ arc lane refl c.requires.there c.index_mut-lane.ensures.value)
    (face-pushed-behind lane new c.args.item.now.time refl c.in-Some.ensures.1 (ap (λ (n : ℕ). Some n) c.unwrap_or.ensures) refl)

pub returns-clause-faces : goal.returns-clause-faces
returns-clause-faces g c = λ other differ. other-face c.args.self.now.lanes.items c.args.arc other _ differ

pub returns-clause-size : goal.returns-clause-size
returns-clause-size g c = length-set c.args.self.now.lanes.items c.args.arc _

pub returns-clause-frames : goal.returns-clause-frames
returns-clause-frames g c = c.in-Ok.ensures.frames

pub returns-clause-later : goal.returns-clause-later
returns-clause-later g c = c.in-Ok.ensures.later

pub returns-clause-faults : goal.returns-clause-faults
returns-clause-faults g c = c.in-Ok.ensures.faults

pub returns-clause-disk : goal.returns-clause-disk
returns-clause-disk g c = tt

pub returns-clause-cause : goal.returns-clause-cause
returns-clause-cause g c = tt

pub returns-clause-honest : goal.returns-clause-honest
returns-clause-honest g c = tt

pub returns-clause-misfit : goal.returns-clause-misfit
returns-clause-misfit g c = tt

pub returns-clause-items : goal.returns-clause-items
returns-clause-items g c tells =
    let q = c.args.self.now in
    let arc = c.args.arc in
    let lane = c.index_mut-lane.result.now in
    let new : FrontLane = record lane { count = c.in-Some.count; behind = Some c.unwrap_or.result } in
    let r : Queues = record { lanes = with_item q.lanes arc new; paged = c.push.new.self; spares = tt } in
    let more : List Item = c.args.item.now ∷ [] in
    written-items q (known (g.D.PageDisk.log c.args.disk.now)) r (known (g.D.PageDisk.log c.push.new.disk)) arc lane new more c.requires.there (slice_get_read q.lanes.items _ arc lane refl c.requires.there c.index_mut-lane.ensures.value) refl
    (ap (λ (xs : List Item). lane.front.items ++ xs) (c.in-Ok.ensures.items tells) ∙ sym (append_assoc lane.front.items (pages.paged_items_on q.paged (known (g.D.PageDisk.log c.args.disk.now)) arc) more))

pub returns-clause-others : goal.returns-clause-others
returns-clause-others g c tells other differ =
    let q = c.args.self.now in
    let new : FrontLane = record c.index_mut-lane.result.now { count = c.in-Some.count; behind = Some c.unwrap_or.result } in
    let r : Queues = record { lanes = with_item q.lanes c.args.arc new; paged = c.push.new.self; spares = tt } in
    other-items q (known (g.D.PageDisk.log c.args.disk.now)) r (known (g.D.PageDisk.log c.push.new.disk)) c.args.arc other new refl differ (c.in-Ok.ensures.others tells other differ)

pub returns-clause-together : goal.returns-clause-together
returns-clause-together g c =
    let q = c.args.self.now in
    let arc = c.args.arc in
    let lane = c.index_mut-lane.result.now in
    let new : FrontLane = record lane { count = c.in-Some.count; behind = Some c.unwrap_or.result } in
    let r : Queues = record { lanes = with_item q.lanes arc new; paged = c.push.new.self; spares = tt } in
    written-together q _ r _ arc lane new c.requires.together c.in-Ok.ensures.together c.in-Ok.ensures.size c.requires.there
    (slice_get_read q.lanes.items _ arc lane refl c.requires.there c.index_mut-lane.ensures.value) refl c.in-Ok.ensures.faces
    (λ own. pushed-behind lane new c.args.item.now.time (pages.paged_face q.paged arc) (pages.paged_face c.push.new.self arc) own c.in-Ok.ensures.face refl refl c.in-Some.ensures.1 (ap (λ (n : ℕ). Some n) c.unwrap_or.ensures))
