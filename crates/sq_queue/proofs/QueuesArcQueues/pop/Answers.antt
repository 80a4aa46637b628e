use Rattle.std.proofs.Common.{◌≡◌, ◌≢◌, ◌<◌, ◌++◌, ◌∷◌, ℕ, List, Option, Some, is_some, true, refl, sym, ap, subst, ◌∙◌}
use Rattle.std.proofs.Math.ListN.{length-set}
use Rattle.std.specs.Prelude.{IfOk, OnOk, slice_get}
use Rattle.sq_item.specs.declared.Item.{Item}
use Rattle.sq_pool.specs.Trust.{Tells, known}
use Rattle.sq_pool.proofs.TrustLemmas.{IsLater-refl}
use Rattle.std.specs.Vec.{with_item}
use Rattle.std.proofs.lemmas.Option.{slice_get_read}
use Rattle.sq_paged.specs.Faces as pages
use Rattle.sq_paged.specs.Fronts.{IsPopped}
use Rattle.sq_queue.specs.Faces.{LeadsOr, face, face_at, front_at, items_on}
use Rattle.sq_queue.specs.declared.FrontLane.{FrontLane}
use Rattle.sq_queue.specs.declared.Queues.{Queues}
use Rattle.sq_queue.proofs.LaneLemmas.{Takes, taken-lane, taken-face, taken-sound, other-face, front-counted}
use Rattle.sq_queue.proofs.TogetherLemmas.{own-lane, written-together, read-together, same-lanes, taken-items, other-items}
use Rattle.sq_queue.proofs.QueuesArcQueues.pop.Goals as goal
use Rattle.sq_words.proofs.Lists.{get_set_same}

pub pop_behind-requires-clause-there : goal.pop_behind-requires-clause-there
pop_behind-requires-clause-there g c = subst (λ (n : ℕ). c.args.arc < n) (sym (length-set c.args.self.now.lanes.items c.args.arc _)) c.requires.there

pub pop_behind-requires-clause-some : goal.pop_behind-requires-clause-some
pop_behind-requires-clause-some g c =
    let q = c.args.self.now in
    let arc = c.args.arc in
    let lane = c.index_mut-lane.result.now in
    subst (λ (ls : List FrontLane). is_some (face_at (slice_get ls arc)).first ≡ true) (sym (same-lanes q.lanes.items arc lane c.index_mut-lane.ensures.value)) c.requires.some

pub pop_behind-requires-clause-together : goal.pop_behind-requires-clause-together
pop_behind-requires-clause-together g c =
    let q = c.args.self.now in
    let arc = c.args.arc in
    let lane = c.index_mut-lane.result.now in
    read-together q _ (record q { lanes = with_item q.lanes arc lane }) c.requires.together refl (same-lanes q.lanes.items arc lane c.index_mut-lane.ensures.value)

pub returns-then-is_empty-clause-sound : goal.returns-then-is_empty-clause-sound
returns-then-is_empty-clause-sound g c = c.pop_behind.ensures.sound

pub returns-then-is_empty-clause-frames : goal.returns-then-is_empty-clause-frames
returns-then-is_empty-clause-frames g c = c.pop_behind.ensures.frames

pub returns-then-is_empty-clause-together : goal.returns-then-is_empty-clause-together
returns-then-is_empty-clause-together g c = c.pop_behind.ensures.together

pub returns-then-is_empty-clause-later : goal.returns-then-is_empty-clause-later
returns-then-is_empty-clause-later g c = c.pop_behind.ensures.later

pub returns-then-is_empty-clause-disk : goal.returns-then-is_empty-clause-disk
returns-then-is_empty-clause-disk g c = c.pop_behind.ensures.disk

pub returns-then-is_empty-clause-cause : goal.returns-then-is_empty-clause-cause
returns-then-is_empty-clause-cause g c = c.pop_behind.ensures.cause

pub returns-then-is_empty-clause-honest : goal.returns-then-is_empty-clause-honest
returns-then-is_empty-clause-honest g c = c.pop_behind.ensures.honest

pub returns-then-is_empty-clause-misfit : goal.returns-then-is_empty-clause-misfit
returns-then-is_empty-clause-misfit g c = c.pop_behind.ensures.misfit

pub returns-then-is_empty-clause-faults : goal.returns-then-is_empty-clause-faults
returns-then-is_empty-clause-faults g c = c.pop_behind.ensures.faults

pub returns-then-is_empty-clause-face : goal.returns-then-is_empty-clause-face
returns-then-is_empty-clause-face g c =
    let q = c.args.self.now in
    let arc = c.args.arc in
    let lane = c.index_mut-lane.result.now in
    subst (λ (ls : List FrontLane). OnOk c.pop_behind.result (IsPopped (face_at (slice_get ls arc)) (face c.pop_behind.new.self arc)))
    (same-lanes q.lanes.items arc lane c.index_mut-lane.ensures.value) c.pop_behind.ensures.face

pub returns-then-is_empty-clause-faces : goal.returns-then-is_empty-clause-faces
returns-then-is_empty-clause-faces g c = λ other differ. c.pop_behind.ensures.faces other differ ∙ other-face c.args.self.now.lanes.items c.args.arc other _ differ

pub returns-then-is_empty-clause-size : goal.returns-then-is_empty-clause-size
returns-then-is_empty-clause-size g c = c.pop_behind.ensures.size ∙ length-set c.args.self.now.lanes.items c.args.arc _

pub returns-then-is_empty-clause-items : goal.returns-then-is_empty-clause-items
returns-then-is_empty-clause-items g c =
    let q = c.args.self.now in
    let arc = c.args.arc in
    let lane = c.index_mut-lane.result.now in
    let told = known (g.D.PageDisk.log c.args.disk.now) in
    let now = known (g.D.PageDisk.log c.pop_behind.new.disk) in
    subst (λ (ls : List FrontLane). IfOk c.pop_behind.result (λ item. Tells now → front_at (slice_get ls arc) ++ pages.paged_items_on q.paged told arc ≡ item ∷ items_on c.pop_behind.new.self now arc))
    (same-lanes q.lanes.items arc lane c.index_mut-lane.ensures.value) c.pop_behind.ensures.items

pub returns-then-is_empty-clause-first : goal.returns-then-is_empty-clause-first
returns-then-is_empty-clause-first g c =
    let q = c.args.self.now in
    let arc = c.args.arc in
    let lane = c.index_mut-lane.result.now in
    let before = g.D.PageDisk.log c.args.disk.now in
    let after = g.D.PageDisk.log c.pop_behind.new.disk in
    subst (λ (ls : List FrontLane). IfOk c.pop_behind.result (λ item. LeadsOr (front_at (slice_get ls arc)) item (pages.IsFirstPaged q.paged before after arc item)))
    (same-lanes q.lanes.items arc lane c.index_mut-lane.ensures.value) c.pop_behind.ensures.first

pub returns-then-is_empty-clause-others : goal.returns-then-is_empty-clause-others
returns-then-is_empty-clause-others g c =
    let q = c.args.self.now in
    let arc = c.args.arc in
    let lane = c.index_mut-lane.result.now in
    let told = known (g.D.PageDisk.log c.args.disk.now) in
    let now = known (g.D.PageDisk.log c.pop_behind.new.disk) in
    subst (λ (ls : List FrontLane). OnOk c.pop_behind.result (Tells now → (other : ℕ) → other ≢ arc → items_on c.pop_behind.new.self now other ≡ front_at (slice_get ls other) ++ pages.paged_items_on q.paged told other))
    (same-lanes q.lanes.items arc lane c.index_mut-lane.ensures.value) c.pop_behind.ensures.others

pub take_first-requires-clause-counted : goal.take_first-requires-clause-counted
take_first-requires-clause-counted g c =
    let q = c.args.self.now in
    let arc = c.args.arc in
    let lane = c.index_mut-lane.result.now in
    let own = own-lane q _ arc lane c.requires.together (slice_get_read q.lanes.items _ arc lane refl c.requires.there c.index_mut-lane.ensures.value) in
    front-counted lane (pages.paged_face q.paged arc) own

pub take_first-requires-clause-sound : goal.take_first-requires-clause-sound
take_first-requires-clause-sound g c =
    let q = c.args.self.now in
    let arc = c.args.arc in
    let lane = c.index_mut-lane.result.now in
    (own-lane q _ arc lane c.requires.together (slice_get_read q.lanes.items _ arc lane refl c.requires.there c.index_mut-lane.ensures.value)).sound

pub take_first-requires-clause-held : goal.take_first-requires-clause-held
take_first-requires-clause-held g c =
    let q = c.args.self.now in
    let arc = c.args.arc in
    let lane = c.index_mut-lane.result.now in
    (own-lane q _ arc lane c.requires.together (slice_get_read q.lanes.items _ arc lane refl c.requires.there c.index_mut-lane.ensures.value)).held

pub returns-clause-sound : goal.returns-clause-sound
returns-clause-sound g c =
    let q = c.args.self.now in
    let arc = c.args.arc in
    let lane = c.index_mut-lane.result.now in
    let new = c.take_first.new.self in
    let was = slice_get_read q.lanes.items _ arc lane refl c.requires.there c.index_mut-lane.ensures.value in
    let takes : Takes lane new c.take_first.result = record { front = c.take_first.ensures.front; held = c.take_first.ensures.held; less = c.take_first.ensures.less; count = c.take_first.ensures.count; behind = c.take_first.ensures.behind; ended = c.take_first.ensures.ended } in
    taken-sound lane new c.take_first.result (pages.paged_face q.paged arc) (own-lane q _ arc lane c.requires.together was) takes

pub returns-clause-faces : goal.returns-clause-faces
returns-clause-faces g c = λ other differ. other-face c.args.self.now.lanes.items c.args.arc other _ differ

pub returns-clause-size : goal.returns-clause-size
returns-clause-size g c = length-set c.args.self.now.lanes.items c.args.arc _

pub returns-clause-items : goal.returns-clause-items
returns-clause-items g c tells =
    let q = c.args.self.now in
    let arc = c.args.arc in
    let told = known (g.D.PageDisk.log c.args.disk.now) in
    let lane = c.index_mut-lane.result.now in
    let new = c.take_first.new.self in
    let r : Queues = record q { lanes = with_item q.lanes arc new } in
    let was = slice_get_read q.lanes.items _ arc lane refl c.requires.there c.index_mut-lane.ensures.value in
    taken-items q told r told arc lane new c.take_first.result c.requires.there was refl
    (ap (λ (xs : List Item). xs ++ pages.paged_items_on q.paged told arc) c.take_first.ensures.front)

pub returns-clause-first : goal.returns-clause-first
returns-clause-first g c =
    let q = c.args.self.now in
    let arc = c.args.arc in
    let lane = c.index_mut-lane.result.now in
    let item = c.take_first.result in
    let before = g.D.PageDisk.log c.args.disk.now in
    let was = slice_get_read q.lanes.items _ arc lane refl c.requires.there c.index_mut-lane.ensures.value in
    subst (λ (o : Option FrontLane). LeadsOr (front_at o) item (pages.IsFirstPaged q.paged before before arc item)) (sym was)
    (subst (λ (front : List Item). LeadsOr front item (pages.IsFirstPaged q.paged before before arc item)) (sym c.take_first.ensures.front) refl)

pub returns-clause-others : goal.returns-clause-others
returns-clause-others g c tells other differ =
    let q = c.args.self.now in
    let told = known (g.D.PageDisk.log c.args.disk.now) in
    let new = c.take_first.new.self in
    other-items q told (record q { lanes = with_item q.lanes c.args.arc new }) told c.args.arc other new refl differ refl

pub returns-clause-frames : goal.returns-clause-frames
returns-clause-frames g c = refl

pub returns-clause-later : goal.returns-clause-later
returns-clause-later g c = IsLater-refl _

pub returns-clause-disk : goal.returns-clause-disk
returns-clause-disk g c = tt

pub returns-clause-cause : goal.returns-clause-cause
returns-clause-cause g c = tt

pub returns-clause-honest : goal.returns-clause-honest
returns-clause-honest g c = tt

pub returns-clause-misfit : goal.returns-clause-misfit
returns-clause-misfit g c = tt

pub returns-clause-face : goal.returns-clause-face
returns-clause-face g c =
    let q = c.args.self.now in
    let arc = c.args.arc in
    let lane = c.index_mut-lane.result.now in
    let new = c.take_first.new.self in
    let was = slice_get_read q.lanes.items _ arc lane refl c.requires.there c.index_mut-lane.ensures.value in
    let takes : Takes lane new c.take_first.result = record { front = c.take_first.ensures.front; held = c.take_first.ensures.held; less = c.take_first.ensures.less; count = c.take_first.ensures.count; behind = c.take_first.ensures.behind; ended = c.take_first.ensures.ended } in
    let popped = taken-face lane new c.take_first.result (pages.paged_face q.paged arc) (own-lane q _ arc lane c.requires.together was) (c.requires.together.paged.lanes arc).first takes in
    subst (λ (o : Option FrontLane). IsPopped (face q arc) (face_at o)) (sym (get_set_same q.lanes.items arc new c.requires.there)) (subst (λ (o : Option FrontLane). IsPopped (face_at o) (face_at (Some new))) (sym was) popped)

pub returns-clause-together : goal.returns-clause-together
returns-clause-together g c =
    let q = c.args.self.now in
    let arc = c.args.arc in
    let lane = c.index_mut-lane.result.now in
    let new = c.take_first.new.self in
    let takes : Takes lane new c.take_first.result = record { front = c.take_first.ensures.front; held = c.take_first.ensures.held; less = c.take_first.ensures.less; count = c.take_first.ensures.count; behind = c.take_first.ensures.behind; ended = c.take_first.ensures.ended } in
    let r : Queues = record q { lanes = with_item q.lanes arc new } in
    written-together q _ r _ arc lane new c.requires.together c.requires.together.paged refl c.requires.there
    (slice_get_read q.lanes.items _ arc lane refl c.requires.there c.index_mut-lane.ensures.value) refl (λ other differ. refl)
    (λ own. taken-lane lane new c.take_first.result (pages.paged_face q.paged arc) own takes)

pub take_first-requires-clause-few : goal.take_first-requires-clause-few
take_first-requires-clause-few g c =
    let q = c.args.self.now in
    let arc = c.args.arc in
    let lane = c.index_mut-lane.result.now in
    (own-lane q _ arc lane c.requires.together (slice_get_read q.lanes.items _ arc lane refl c.requires.there c.index_mut-lane.ensures.value)).few
