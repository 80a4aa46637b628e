use Rattle.std.proofs.Common.{◌∙◌, ℕ, List, sym, ap, subst, arith}
use Rattle.sq_words.specs.Lists.{nth}
use Rattle.sq_outside.specs.Disks.{DiskLog}
use Rattle.sq_link.specs.ChainLists.{Chained, head_or}
use Rattle.std.specs.Prelude.{None}
use Rattle.sq_pool.proofs.TrustLemmas.{IsLater-trans}
use Rattle.sq_paged.specs.Faces.{IsFirstAlong, IsFirstPaged}
use Rattle.sq_bring.specs.declared.bring.Kept.{Kept}
use Rattle.sq_paged.proofs.AlongLemmas.{head-is}
use Rattle.sq_paged.proofs.TouchLemmas.{alone-by}
use Rattle.sq_paged.proofs.ArcLemmas.{take-removes, gone-removes}
use Rattle.sq_paged.proofs.CallLemmas.{inside, first-in, left-is, cause-refusal, plain-refusal, rose-since, some-first, taken-inside, taken-below, taken-held, taken-there}
use Rattle.sq_bring.proofs.CauseLemmas.{told-fits-all}
use Rattle.sq_paged.proofs.Queues.take.Goals as goal

pub take_first-requires-clause-node : goal.take_first-requires-clause-node
take_first-requires-clause-node g c =
    (alone-by c.args.self.now c.requires.together.nodes c.one_place_each.ensures).below c.args.arc c.in-Some.node (first-in c.args.self.now c.args.arc c.in-Some.node (sym c.in-Some.ensures))

pub take_first-requires-clause-kept : goal.take_first-requires-clause-kept
take_first-requires-clause-kept g c = c.requires.together.pages c.args.arc c.in-Some.node (first-in c.args.self.now c.args.arc c.in-Some.node (sym c.in-Some.ensures))

pub returns-then-index-gt0-clause-ok : goal.returns-then-index-gt0-clause-ok
returns-then-index-gt0-clause-ok g c =
    let alone = alone-by c.args.self.now c.requires.together.nodes c.one_place_each.ensures in
    let s = first-in c.args.self.now c.args.arc c.in-Some.node (sym c.in-Some.ensures) in
    let h = head-is c.in-Some.node _ (sym c.in-Some.ensures) in
    let is = left-is c.args.self.now _ c.take_first.new.self _ c.in-Some.node c.in-Ok.item c.index.result.now c.in-Ok.ensures.ok (alone.below c.args.arc c.in-Some.node s) c.index.ensures in
    take-removes c.args.self.now _ c.take_first.new.self _ c.args.arc c.in-Some.node c.in-Ok.item h.0 c.requires.together alone h.1 c.in-Ok.ensures.ok (omega (arith, c.if-index-gt0.true, ap (λ (k : Kept). k.count) is))

pub returns-in-Ok-drop_first-clause-ok : goal.returns-in-Ok-drop_first-clause-ok
returns-in-Ok-drop_first-clause-ok g c =
    let alone = alone-by c.args.self.now c.requires.together.nodes c.one_place_each.ensures in
    let s = first-in c.args.self.now c.args.arc c.in-Some.node (sym c.in-Some.ensures) in
    let h = head-is c.in-Some.node _ (sym c.in-Some.ensures) in
    let is = left-is c.args.self.now _ c.take_first.new.self _ c.in-Some.node c.in-Ok.item c.index.result.now c.in-Ok.ensures.ok (alone.below c.args.arc c.in-Some.node s) c.index.ensures in
    gone-removes c.args.self.now _ c.take_first.new.self _ c.drop_first.new.self _ c.args.arc c.in-Some.node c.in-Ok.item h.0 c.requires.together alone (inside c.args.self.now _ c.args.arc c.requires.together c.requires.there) h.1 c.in-Ok.ensures.ok
    (omega (arith, c.if-index-gt0.false, ap (λ (k : Kept). k.count) is)) c.in-Ok-drop_first.ensures.ok

pub returns-in-Err-clause-cause : goal.returns-in-Err-clause-cause
returns-in-Err-clause-cause g c =
    cause-refusal c.args.self.now c.take_first.new.self _ _ c.args.arc c.in-Some.node c.in-Err.e (first-in c.args.self.now c.args.arc c.in-Some.node (sym c.in-Some.ensures)) c.in-Err.ensures.cause c.in-Err.ensures.tables

pub unreachable-requires : goal.unreachable-requires
unreachable-requires g c = some-first c.args.self.now _ c.args.arc c.requires.together c.requires.some (sym c.first.ensures ∙ c.in_default.is)

pub take_first-requires-clause-agree : goal.take_first-requires-clause-agree
take_first-requires-clause-agree g c = c.requires.together.agree

pub returns-in-Err-clause-lanes : goal.returns-in-Err-clause-lanes
returns-in-Err-clause-lanes g c = c.take_first.ensures.lanes

pub returns-in-Err-clause-disk : goal.returns-in-Err-clause-disk
returns-in-Err-clause-disk g c = c.in-Err.ensures.disk

pub returns-in-Err-clause-honest : goal.returns-in-Err-clause-honest
returns-in-Err-clause-honest g c = c.in-Err.ensures.honest

pub returns-in-Err-clause-misfit : goal.returns-in-Err-clause-misfit
returns-in-Err-clause-misfit g c = c.in-Err.ensures.misfit

pub returns-in-Err-clause-later : goal.returns-in-Err-clause-later
returns-in-Err-clause-later g c = c.take_first.ensures.later

pub returns-in-Err-clause-faults : goal.returns-in-Err-clause-faults
returns-in-Err-clause-faults g c = c.take_first.ensures.faults

pub returns-then-index-gt0-clause-sound : goal.returns-then-index-gt0-clause-sound
returns-then-index-gt0-clause-sound g c = c.in-Ok.ensures.sound

pub returns-then-index-gt0-clause-lanes : goal.returns-then-index-gt0-clause-lanes
returns-then-index-gt0-clause-lanes g c = c.take_first.ensures.lanes

pub returns-then-index-gt0-clause-later : goal.returns-then-index-gt0-clause-later
returns-then-index-gt0-clause-later g c = c.take_first.ensures.later

pub returns-then-index-gt0-clause-faults : goal.returns-then-index-gt0-clause-faults
returns-then-index-gt0-clause-faults g c = c.take_first.ensures.faults

pub drop_first-requires-clause-arc : goal.drop_first-requires-clause-arc
drop_first-requires-clause-arc g c =
    taken-inside c.args.self.now _ c.take_first.new.self _ c.args.arc c.in-Some.node c.in-Ok.item c.in-Ok.ensures.ok (inside c.args.self.now _ c.args.arc c.requires.together c.requires.there)

pub drop_first-requires-clause-first : goal.drop_first-requires-clause-first
drop_first-requires-clause-first g c = ap (λ (x : Chained). head_or (nth x.lists c.args.arc) None) c.in-Ok.ensures.ok.state ∙ sym c.in-Some.ensures

pub drop_first-requires-clause-node : goal.drop_first-requires-clause-node
drop_first-requires-clause-node g c =
    let alone = alone-by c.args.self.now c.requires.together.nodes c.one_place_each.ensures in
    taken-below c.args.self.now _ c.take_first.new.self _ c.in-Some.node c.in-Ok.item c.in-Ok.ensures.ok (alone.below c.args.arc c.in-Some.node (first-in c.args.self.now c.args.arc c.in-Some.node (sym c.in-Some.ensures)))

pub drop_first-requires-clause-held : goal.drop_first-requires-clause-held
drop_first-requires-clause-held g c =
    let alone = alone-by c.args.self.now c.requires.together.nodes c.one_place_each.ensures in
    taken-held c.args.self.now _ c.take_first.new.self _ c.in-Some.node c.in-Ok.item c.in-Ok.ensures.ok (alone.below c.args.arc c.in-Some.node (first-in c.args.self.now c.args.arc c.in-Some.node (sym c.in-Some.ensures)))

pub drop_first-requires-clause-agree : goal.drop_first-requires-clause-agree
drop_first-requires-clause-agree g c = c.in-Ok.ensures.ok.page.spares.agree

pub returns-in-Ok-drop_first-clause-sound : goal.returns-in-Ok-drop_first-clause-sound
returns-in-Ok-drop_first-clause-sound g c = c.in-Ok.ensures.sound

pub returns-in-Ok-drop_first-clause-lanes : goal.returns-in-Ok-drop_first-clause-lanes
returns-in-Ok-drop_first-clause-lanes g c = c.drop_first.ensures.lanes ∙ c.take_first.ensures.lanes

pub returns-in-Ok-drop_first-clause-later : goal.returns-in-Ok-drop_first-clause-later
returns-in-Ok-drop_first-clause-later g c = IsLater-trans _ _ _ c.take_first.ensures.later c.drop_first.ensures.later

pub returns-in-Ok-drop_first-clause-faults : goal.returns-in-Ok-drop_first-clause-faults
returns-in-Ok-drop_first-clause-faults g c = omega (arith, c.take_first.ensures.faults, c.drop_first.ensures.faults)

pub returns-in-Err-drop_first-clause-lanes : goal.returns-in-Err-drop_first-clause-lanes
returns-in-Err-drop_first-clause-lanes g c = c.drop_first.ensures.lanes ∙ c.take_first.ensures.lanes

pub returns-in-Err-drop_first-clause-disk : goal.returns-in-Err-drop_first-clause-disk
returns-in-Err-drop_first-clause-disk g c = λ is. rose-since _ _ _ c.take_first.ensures.faults (c.in-Err-drop_first.ensures.disk is)

pub returns-in-Err-drop_first-clause-cause : goal.returns-in-Err-drop_first-clause-cause
returns-in-Err-drop_first-clause-cause g c = plain-refusal c.args.self.now c.drop_first.new.self _ _ c.args.arc c.in-Err-drop_first.e c.in-Err-drop_first.ensures.plain

pub returns-in-Err-drop_first-clause-honest : goal.returns-in-Err-drop_first-clause-honest
returns-in-Err-drop_first-clause-honest g c = λ _. c.in-Err-drop_first.ensures.plain

pub returns-in-Err-drop_first-clause-misfit : goal.returns-in-Err-drop_first-clause-misfit
returns-in-Err-drop_first-clause-misfit g c = λ _. told-fits-all c.in-Err-drop_first.e c.in-Err-drop_first.ensures.plain

pub returns-in-Err-drop_first-clause-later : goal.returns-in-Err-drop_first-clause-later
returns-in-Err-drop_first-clause-later g c = IsLater-trans _ _ _ c.take_first.ensures.later c.drop_first.ensures.later

pub returns-in-Err-drop_first-clause-faults : goal.returns-in-Err-drop_first-clause-faults
returns-in-Err-drop_first-clause-faults g c = omega (arith, c.take_first.ensures.faults, c.drop_first.ensures.faults)

pub returns-then-index-gt0-clause-first : goal.returns-then-index-gt0-clause-first
returns-then-index-gt0-clause-first g c =
    let q = c.args.self.now in
    let h = head-is c.in-Some.node _ (sym c.in-Some.ensures) in
    subst (λ (nodes : List ℕ). IsFirstAlong q.pool (g.D.PageDisk.log c.args.disk.now) (g.D.PageDisk.log c.take_first.new.disk) q.kept.items nodes c.in-Ok.item) (sym h.1) c.in-Ok.ensures.first

pub returns-in-Ok-drop_first-clause-first : goal.returns-in-Ok-drop_first-clause-first
returns-in-Ok-drop_first-clause-first g c =
    let q = c.args.self.now in
    let before = g.D.PageDisk.log c.args.disk.now in
    let alone = alone-by q c.requires.together.nodes c.one_place_each.ensures in
    let h = head-is c.in-Some.node _ (sym c.in-Some.ensures) in
    let below = alone.below c.args.arc c.in-Some.node (first-in q c.args.arc c.in-Some.node (sym c.in-Some.ensures)) in
    let same = c.in-Ok-drop_first.ensures.log (taken-there q _ c.take_first.new.self _ c.in-Some.node c.in-Ok.item c.in-Ok.ensures.ok below) in
    subst (λ (log : DiskLog). IsFirstPaged q before log c.args.arc c.in-Ok.item) (sym same)
    (subst (λ (nodes : List ℕ). IsFirstAlong q.pool before (g.D.PageDisk.log c.take_first.new.disk) q.kept.items nodes c.in-Ok.item) (sym h.1) c.in-Ok.ensures.first)
