use Rattle.std.proofs.Common.{refl}
use Rattle.sq_work.specs.AcceptedViews.{replay_of}
use Rattle.sq_top.proofs.AuditLemmas.{audited_cut, audited_ok, lost_plain, stopped_plain}
use Rattle.sq_top.proofs.EndLemmas.{stopped_ends}
use Rattle.sq_top.proofs.auditing.audit_files.Goals as goal

pub returns-in-Err-clause-ends : goal.returns-in-Err-clause-ends
returns-in-Err-clause-ends g c words disk messages messages' steps asked =
    stopped_ends _ _ _ c.in-Err.stopped.status _ (c.in-Err.ensures.prepared words asked) (refl, refl)

pub returns-in-Err-clause-plain : goal.returns-in-Err-clause-plain
returns-in-Err-clause-plain g c words asked =
    stopped_plain words c.args.net c.args.text.now asked _ _ c.in-Err.stopped.status _ (c.in-Err.ensures.prepared words asked)

pub returns-in-Ok-write_verdict-clause-ends : goal.returns-in-Ok-write_verdict-clause-ends
returns-in-Ok-write_verdict-clause-ends g c words disk messages messages' steps asked =
    rw (c.stopped_by.ensures.0, c.stopped_by.ensures.1)
    (audited_ok words c.args.net c.args.text.now asked _ _ (replay_of c.in-Ok.accepted) _
    (c.in-Ok.ensures.prepared words asked) c.in-Ok.ensures.no_fault refl c.in-Ok-write_verdict.ensures.ok)

pub returns-in-Err-write_verdict-clause-ends : goal.returns-in-Err-write_verdict-clause-ends
returns-in-Err-write_verdict-clause-ends g c words disk messages messages' steps asked =
    rw (c.stopped_by-in-Err-write_verdict.ensures.0, c.stopped_by-in-Err-write_verdict.ensures.1)
    (audited_cut words c.args.net c.args.text.now asked _ _ (replay_of c.in-Ok.accepted) _
    (c.in-Ok.ensures.prepared words asked) c.in-Ok.ensures.no_fault refl c.in-Err-write_verdict.status c.in-Err-write_verdict.ensures.err)

pub returns-in-Err-write_verdict-clause-plain : goal.returns-in-Err-write_verdict-clause-plain
returns-in-Err-write_verdict-clause-plain g c words asked = rw c.stopped_by-in-Err-write_verdict.ensures.0 (lost_plain _ _ c.in-Err-write_verdict.status c.in-Err-write_verdict.ensures.err.part.lost)
