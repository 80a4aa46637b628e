use Rattle.std.proofs.Common.{◌≡◌, ℕ, ◌≤◌, ◌<◌, List, [], ◌∷◌, length, refl, ap, sym, ◌∙◌, subst, arith}
use Rattle.std.specs.Prelude.{OnOk, is_some, slice_get, slice_index_or}
use Rattle.sq_pool.specs.Trust.{known}
use Rattle.sq_queue.specs.Faces.{face, items_on}
use Rattle.sq_queue.proofs.LaneLemmas.{on-ok-both, on-err-both}
use Rattle.sq_flow.specs.Sends.{SentWhole}
use Rattle.sq_flow.proofs.SendLemmas.{at_or_other, pushes-same, pushes-one, pushes-only}
use Rattle.sq_flow.proofs.sending.send_one.Goals as goal

-- a list of one is its first
only-one : (xs : List ℕ) → 1 ≤ length xs → length xs < 2 → xs ≡ slice_index_or xs 0 0 ∷ []
only-one [] some few = absurd (omega (arith, some))
only-one (x ∷ []) some few = refl
only-one (x ∷ y ∷ xs) some few = absurd (omega (arith, few))

pub has_room-requires-clause-there : goal.has_room-requires-clause-there
has_room-requires-clause-there g c =
    let only = only-one c.arcs_at.result.now c.in-len1.len_at_least c.in-len1.len_below in
    (c.requires.may.there 0 _ (ap (λ l. slice_get l 0) (sym c.arcs_at.ensures ∙ only))).0

pub put-requires-clause-there : goal.put-requires-clause-there
put-requires-clause-there g c =
    let only = only-one c.arcs_at.result.now c.in-len1.len_at_least c.in-len1.len_below in
    (c.requires.may.there 0 _ (ap (λ l. slice_get l 0) (sym c.arcs_at.ensures ∙ only))).0

pub put-requires-clause-open : goal.put-requires-clause-open
put-requires-clause-open g c =
    let only = only-one c.arcs_at.result.now c.in-len1.len_at_least c.in-len1.len_below in
    (c.requires.may.there 0 _ (ap (λ l. slice_get l 0) (sym c.arcs_at.ensures ∙ only))).1

pub send_any-requires-clause-may : goal.send_any-requires-clause-may
send_any-requires-clause-may g c = rw c.arcs_at.ensures c.requires.may

pub returns-in-len1-clause-ok : goal.returns-in-len1-clause-ok
returns-in-len1-clause-ok g c =
    let q = c.args.queues.now in
    let was = known (g.D.PageDisk.log c.args.disk.now) in
    let arc = slice_index_or c.arcs_at.result.now 0 0 in
    let only = only-one c.arcs_at.result.now c.in-len1.len_at_least c.in-len1.len_below in
    let told = c.put.ensures in
    on-ok-both c.put.result told.face told.items (λ here more. record {
      whole = c.requires.whole;
      sent =
          pushes-only q c.put.new.self was was _ arc c.args.item (sym c.arcs_at.ensures ∙ only) c.requires.may.together
          (pushes-one q c.put.new.self was was arc c.args.item c.requires.may.sound here told.faces told.size told.frames (λ tells. more was c.requires.may.together) (λ tells. told.others was)
          (told.together was c.requires.may.together) (λ tells. tells));
    })

pub returns-in-len1-clause-err : goal.returns-in-len1-clause-err
returns-in-len1-clause-err g c =
    let q = c.args.queues.now in
    let was = known (g.D.PageDisk.log c.args.disk.now) in
    let arc = slice_index_or c.arcs_at.result.now 0 0 in
    let told = c.put.ensures in
    on-err-both c.put.result told.face_err told.items_err (λ here kept. record {
      fails = rw c.requires.whole (record { cause = tt; honest = λ told. tt });
      unsent = λ whole.
          pushes-same q c.put.new.self was _ _ _ told.size told.frames
          (at_or_other (λ n. face c.put.new.self n ≡ face q n) arc here told.faces)
          (at_or_other (λ n. items_on c.put.new.self was n ≡ items_on q was n) arc (kept was) (told.others was))
          (told.together was c.requires.may.together) (λ n. refl);
    })

pub returns-in_default-clause-ok : goal.returns-in_default-clause-ok
returns-in_default-clause-ok g c =
    subst (λ (l : List ℕ). OnOk c.send_any.result (SentWhole l c.args.item c.args.queues.now c.send_any.new.queues (known (g.D.PageDisk.log c.args.disk.now)) (known (g.D.PageDisk.log c.send_any.new.disk)) c.send_any.new.failed))
    c.arcs_at.ensures c.send_any.ensures.ok

pub returns-in_default-clause-err : goal.returns-in_default-clause-err
returns-in_default-clause-err g c =
    on-err-both c.send_any.result c.send_any.ensures.kept c.send_any.ensures.fails (λ some fails. record { unsent = λ whole. absurd (cc (ap is_some whole, some)); fails = fails })
