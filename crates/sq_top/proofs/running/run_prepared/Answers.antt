use Rattle.std.proofs.Common.{◌≡◌, true, false, ap, refl, sym, ◌∙◌}
use Rattle.sq_pool.proofs.TrustLemmas.{IsLater-refl}
use Rattle.sq_command.specs.Commands.{command_in}
use Rattle.sq_status.specs.StatusKinds.{is_refusal}
use Rattle.sq_work.specs.AcceptedViews.{replay_of}
use Rattle.sq_top.proofs.EndLemmas.{answered_cut, answered_ok, stopped_ends}
use Rattle.sq_due.specs.States.{disk_state, sink_state}
use Rattle.sq_top.proofs.RunningLemmas.{never_refused, reported_runs, reported_some}
use Rattle.sq_top.proofs.running.run_prepared.Goals as goal

pub returns-in-Err-clause-ends : goal.returns-in-Err-clause-ends
returns-in-Err-clause-ends g c words folder folder' messages messages' asked prepared faultless = stopped_ends _ _ _ _ _ (rw c.in-Err.is at prepared) (refl, refl)

pub returns-in-Err-clause-later : goal.returns-in-Err-clause-later
returns-in-Err-clause-later g c = IsLater-refl _

pub returns-in-Ok-run_accepted-clause-ends : goal.returns-in-Ok-run_accepted-clause-ends
returns-in-Ok-run_accepted-clause-ends g c words folder folder' messages messages' asked prepared faultless =
    rw (c.stopped_by.ensures.0, c.stopped_by.ensures.1)
    (answered_ok words _ _ (replay_of c.in-Ok.accepted) _ (reported_some c.args.report (command_in words) asked) (rw c.in-Ok.is at prepared) (rw c.in-Ok.is at faultless)
    (c.in-Ok-run_accepted.ensures.ok (command_in words) folder folder' messages messages' asked) (λ runs. c.in-Ok-run_accepted.ensures.fed))

pub returns-in-Err-run_accepted-clause-ends : goal.returns-in-Err-run_accepted-clause-ends
returns-in-Err-run_accepted-clause-ends g c words folder folder' messages messages' asked prepared faultless =
    rw (c.stopped_by-in-Err-run_accepted.ensures.0, c.stopped_by-in-Err-run_accepted.ensures.1)
    (answered_cut words _ _ (replay_of c.in-Ok.accepted) _ (reported_some c.args.report (command_in words) asked) (rw c.in-Ok.is at prepared) (rw c.in-Ok.is at faultless)
    c.in-Err-run_accepted.status (c.in-Err-run_accepted.ensures.cut (command_in words) folder folder' messages messages' asked)
    (λ fault. reported_runs c.args.report (command_in words) asked))

pub returns-in-Err-run_accepted-clause-disk : goal.returns-in-Err-run_accepted-clause-disk
returns-in-Err-run_accepted-clause-disk g c refused =
    let begun = never_refused c.args.report (replay_of c.in-Ok.accepted) (disk_state g.D.PageDisk c.args.disk.now) (disk_state g.D.PageDisk c.run_accepted.new.disk)
    (sink_state g.S.Sink c.args.out.now) (sink_state g.S.Sink c.run_accepted.new.out) c.args.steps.now c.run_accepted.new.steps c.in-Err-run_accepted.status c.in-Err-run_accepted.ensures.cut in
    let both : true ≡ false = sym refused ∙ ap (λ s. is_refusal s) c.stopped_by-in-Err-run_accepted.ensures.0 ∙ begun in absurd (cc)
