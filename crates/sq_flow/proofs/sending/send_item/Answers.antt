use Rattle.std.proofs.Common.{◌++◌, ◌∷◌, [], get_or, take, ap, sym, ◌∙◌, add-one, refl}
use Rattle.std.proofs.Math.Seq.{take-suc}
use Rattle.std.proofs.lemmas.List.{take_all}
use Rattle.sq_pool.specs.Trust.{known}
use Rattle.sq_item.specs.Things.{spread}
use Rattle.sq_flow.specs.Wiring.{times_in}
use Rattle.sq_flow.specs.Sends.{many}
use Rattle.sq_flow.proofs.SendLemmas.{pushes-none, pushes-one, pushes-both, many-next, not-in, contains-get, at-front, at-last}
use Rattle.std.proofs.lemmas.Result.{err_from_is_err_and}
use Rattle.sq_flow.proofs.CauseLemmas.{cause-of, told-of, grows-none, grows-both, fails-since}
use Rattle.sq_flow.proofs.sending.send_item.Goals as goal

pub push-requires-clause-there : goal.push-requires-clause-there
push-requires-clause-there g c =
    let here = at-front c.args.arcs.now c.in-Some.others.now c.in-Some.last.now c.loop-arc.arc-index c.in-Some.ensures.cases.0 c.loop-arc-test.true in
    let low = (c.requires.may.there c.loop-arc.arc-index _ here).0 in rw c.loop-arc.invariant.pushes.lanes low

pub push-requires-clause-open : goal.push-requires-clause-open
push-requires-clause-open g c =
    let here = at-front c.args.arcs.now c.in-Some.others.now c.in-Some.last.now c.loop-arc.arc-index c.in-Some.ensures.cases.0 c.loop-arc-test.true in
    c.loop-arc.invariant.pushes.ended _ ∙ (c.requires.may.there c.loop-arc.arc-index _ here).1

pub loop-arc-preserved : goal.loop-arc-preserved
loop-arc-preserved g c =
    let at = get_or c.in-Some.others.now c.loop-arc.arc-index 0 in
    let here = at-front c.args.arcs.now c.in-Some.others.now c.in-Some.last.now c.loop-arc.arc-index c.in-Some.ensures.cases.0 c.loop-arc-test.true in
    let told = c.in_ok-push.ensures in
    record {
      pushes = pushes-both _ _ _ _ _ _ _ _ _ _ _ _ _ _ _ c.loop-arc.invariant.pushes
          (pushes-one _ _ _ _ at c.args.item c.requires.may.sound told.face told.faces told.size told.frames told.items told.others told.together told.later.known)
          (λ time le. (le, le))
          (λ arc. ap (λ l. many (times_in arc l) (spread c.args.item))
          (ap (λ n. take n c.in-Some.others.now) (add-one c.loop-arc.arc-index) ∙ take-suc c.in-Some.others.now c.loop-arc.arc-index 0 c.loop-arc-test.true)
          ∙ many-next (take c.loop-arc.arc-index c.in-Some.others.now) at (spread c.args.item) arc)
          (λ arc away. (away, not-in c.args.arcs.now at arc (contains-get c.args.arcs.now c.loop-arc.arc-index at here) away));
      grows = grows-both _ _ _ _ _ _ c.loop-arc.invariant.grows (record { later = told.later; faults = told.faults });
    }

pub send-requires-clause-there : goal.send-requires-clause-there
send-requires-clause-there g c =
    let here = at-last c.args.arcs.now c.in-Some.others.now c.in-Some.last.now c.in-Some.ensures.cases.0 in
    let low = (c.requires.may.there _ _ here).0 in rw c.loop-arc.invariant.pushes.lanes low

pub send-requires-clause-open : goal.send-requires-clause-open
send-requires-clause-open g c =
    let here = at-last c.args.arcs.now c.in-Some.others.now c.in-Some.last.now c.in-Some.ensures.cases.0 in
    c.loop-arc.invariant.pushes.ended _ ∙ (c.requires.may.there _ _ here).1

pub returns-clause-sent : goal.returns-clause-sent
returns-clause-sent g c =
    let arcs = c.args.arcs.now in
    let told = c.in_ok-send.ensures in
    let here = at-last arcs c.in-Some.others.now c.in-Some.last.now c.in-Some.ensures.cases.0 in
    pushes-both _ _ _ _ _ _ _ _ _ _ _ _ _ _ _ c.loop-arc.invariant.pushes
    (pushes-one _ _ _ _ c.in-Some.last.now c.args.item c.requires.may.sound told.face told.faces told.size told.frames told.items told.others told.together told.later.known)
    (λ time le. (le, le))
    (λ arc. ap (λ l. many (times_in arc l) (spread c.args.item))
    (c.in-Some.ensures.cases.0 ∙ ap (λ l. l ++ c.in-Some.last.now ∷ []) (sym (take_all c.loop-arc.arc-index c.in-Some.others.now c.loop-arc-test.false)))
    ∙ many-next (take c.loop-arc.arc-index c.in-Some.others.now) c.in-Some.last.now (spread c.args.item) arc)
    (λ arc away. (away, not-in arcs c.in-Some.last.now arc (contains-get arcs _ c.in-Some.last.now here) away))

pub returns-in_err-push-clause-fails : goal.returns-in_err-push-clause-fails
returns-in_err-push-clause-fails g c =
    let p = err_from_is_err_and c.from_residual.result c.from_residual.ensures.1 in
    let told = c.in_err-push.ensures in
    rw (p.1, p.2)
    (fails-since _ _ _ _ _ _ _ _ c.loop-arc.invariant.grows
    (record { cause = cause-of c.loop-arc.queues _ _ _ _ _ _ _ told.disk told.cause; honest = λ known. told-of _ _ told.honest (told.misfit known) }))

pub returns-in_err-send-clause-fails : goal.returns-in_err-send-clause-fails
returns-in_err-send-clause-fails g c =
    let p = err_from_is_err_and c.from_residual-in_err-send.result c.from_residual-in_err-send.ensures.1 in
    let told = c.in_err-send.ensures in
    rw (p.1, p.2)
    (fails-since _ _ _ _ _ _ _ _ c.loop-arc.invariant.grows
    (record { cause = cause-of c.loop-arc.queues _ _ _ _ _ _ _ told.disk told.cause; honest = λ known. told-of _ _ told.honest (told.misfit known) }))

pub returns-in_err-push-clause-disk : goal.returns-in_err-push-clause-disk
returns-in_err-push-clause-disk g c = let told = c.in_err-push.ensures in grows-both _ _ _ _ _ _ c.loop-arc.invariant.grows (record { later = told.later; faults = told.faults })

pub returns-in_err-send-clause-disk : goal.returns-in_err-send-clause-disk
returns-in_err-send-clause-disk g c = let told = c.in_err-send.ensures in grows-both _ _ _ _ _ _ c.loop-arc.invariant.grows (record { later = told.later; faults = told.faults })

pub returns-clause-disk : goal.returns-clause-disk
returns-clause-disk g c = let told = c.in_ok-send.ensures in grows-both _ _ _ _ _ _ c.loop-arc.invariant.grows (record { later = told.later; faults = told.faults })

pub loop-arc-init : goal.loop-arc-init
loop-arc-init g c =
    record {
      pushes = pushes-none c.args.queues.now (known (g.D.PageDisk.log c.args.disk.now)) _ _ _ c.requires.may.together (λ arc. refl);
      grows = grows-none _ _;
    }
