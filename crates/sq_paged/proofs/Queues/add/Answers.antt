use Rattle.std.proofs.Common.{◌<◌, ◌≤◌, refl}
use Rattle.std.specs.Prelude.{length}
use Rattle.std.proofs.lemmas.Option.{slice_get_read}
use Rattle.sq_pool.specs.Trust.{known}
use Rattle.sq_paged.specs.Faces.{kept_at}
use Rattle.sq_paged.specs.Steps.{StartsAt, AddsItem}
use Rattle.sq_paged.proofs.TouchLemmas.{alone-by}
use Rattle.sq_paged.proofs.ArcLemmas.{append-adds, start-adds}
use Rattle.sq_paged.proofs.CallLemmas.{if-some, if-ok, inside, last-is, last-in, cause-refusal}
use Rattle.sq_paged.proofs.Queues.add.Goals as goal

pub with_room-requires-clause-node : goal.with_room-requires-clause-node
with_room-requires-clause-node g c =
    let is = slice_get_read c.args.self.now.lanes.items _ c.args.arc c.index.result.now refl c.requires.there c.index.ensures in
    let alone = alone-by c.args.self.now c.requires.together.nodes c.one_place_each.ensures in
    if-some (λ node. node < length c.args.self.now.kept.items) c.index.result.now.last
    (λ node e. alone.below c.args.arc node (last-in c.args.self.now _ c.args.arc c.index.result.now node c.requires.together is e))

pub with_room-requires-clause-ends : goal.with_room-requires-clause-ends
with_room-requires-clause-ends g c =
    let is = slice_get_read c.args.self.now.lanes.items _ c.args.arc c.index.result.now refl c.requires.there c.index.ensures in
    if-some (λ node. (kept_at c.args.self.now.kept.items node).end ≤ 8192) c.index.result.now.last
    (λ node e. (c.requires.together.pages c.args.arc node (last-in c.args.self.now _ c.args.arc c.index.result.now node c.requires.together is e)).ends)

pub returns-in_default-clause-ok : goal.returns-in_default-clause-ok
returns-in_default-clause-ok g c =
    let alone = alone-by c.args.self.now c.requires.together.nodes c.one_place_each.ensures in
    if-ok (λ node. StartsAt c.args.self.now (known (g.D.PageDisk.log c.args.disk.now)) c.push_page.new.self (known (g.D.PageDisk.log c.push_page.new.disk)) c.args.arc node c.args.item.now)
    (λ node. AddsItem c.args.self.now (known (g.D.PageDisk.log c.args.disk.now)) c.push_page.new.self (known (g.D.PageDisk.log c.push_page.new.disk)) c.args.arc node c.args.item.now) c.push_page.result
    (λ node s. start-adds c.args.self.now _ c.push_page.new.self _ c.args.arc node c.args.item.now c.requires.together alone (inside c.args.self.now _ c.args.arc c.requires.together c.requires.there) s) c.push_page.ensures.ok

pub push_into-requires-clause-node : goal.push_into-requires-clause-node
push_into-requires-clause-node g c =
    let is = slice_get_read c.args.self.now.lanes.items _ c.args.arc c.index.result.now refl c.requires.there c.index.ensures in
    let alone = alone-by c.args.self.now c.requires.together.nodes c.one_place_each.ensures in
    alone.below c.args.arc c.in-Some.node (last-in c.args.self.now _ c.args.arc c.index.result.now c.in-Some.node c.requires.together is c.in-Some.ensures.last)

pub push_into-requires-clause-kept : goal.push_into-requires-clause-kept
push_into-requires-clause-kept g c =
    let is = slice_get_read c.args.self.now.lanes.items _ c.args.arc c.index.result.now refl c.requires.there c.index.ensures in
    c.requires.together.pages c.args.arc c.in-Some.node (last-in c.args.self.now _ c.args.arc c.index.result.now c.in-Some.node c.requires.together is c.in-Some.ensures.last)

pub returns-in-Ok-clause-ok : goal.returns-in-Ok-clause-ok
returns-in-Ok-clause-ok g c =
    let is = slice_get_read c.args.self.now.lanes.items _ c.args.arc c.index.result.now refl c.requires.there c.index.ensures in
    let alone = alone-by c.args.self.now c.requires.together.nodes c.one_place_each.ensures in
    append-adds c.args.self.now _ c.push_into.new.self _ c.args.arc c.in-Some.node c.args.item.now c.requires.together alone
    (last-is c.args.self.now _ c.args.arc c.index.result.now c.in-Some.node c.requires.together is c.in-Some.ensures.last) c.in-Ok.ensures.ok

pub returns-in-Err-clause-cause : goal.returns-in-Err-clause-cause
returns-in-Err-clause-cause g c =
    let is = slice_get_read c.args.self.now.lanes.items _ c.args.arc c.index.result.now refl c.requires.there c.index.ensures in
    cause-refusal c.args.self.now c.push_into.new.self _ _ c.args.arc c.in-Some.node c.in-Err.e
    (last-in c.args.self.now _ c.args.arc c.index.result.now c.in-Some.node c.requires.together is c.in-Some.ensures.last) c.in-Err.ensures.cause c.in-Err.ensures.tables
