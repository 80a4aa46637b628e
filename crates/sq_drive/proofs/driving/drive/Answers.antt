use Rattle.std.proofs.Common.{[], sym}
use Rattle.sq_due.specs.States.{sink_state}
use Rattle.sq_drive.specs.Turns.{run_state}
use Rattle.sq_drive.proofs.OutcomeLemmas.{drive_ends, drive_fails}
use Rattle.sq_due.proofs.WritingLemmas.{appended-nil}
use Rattle.sq_drive.proofs.driving.drive.Goals as goal

pub returns-in-Ok-clause-ok : goal.returns-in-Ok-clause-ok
returns-in-Ok-clause-ok g c =
    let a = run_state g.D.PageDisk c.args.engine c.args.disk.now c.args.steps.now in
    let b = run_state g.D.PageDisk c.step_to_end.new.engine c.step_to_end.new.disk c.step_to_end.new.steps in
    let out = c.in-Ok.ensures.ok in
    drive_ends a b out.events c.step_to_end.ensures.keeps out.ends _ _
    (out.whole c.args.out.now [] (record { part = []; now_is = sym (appended-nil _); all = c.new-lines.ensures }))

pub returns-in-Err-clause-err : goal.returns-in-Err-clause-err
returns-in-Err-clause-err g c =
    let a = run_state g.D.PageDisk c.args.engine c.args.disk.now c.args.steps.now in
    let b = run_state g.D.PageDisk c.step_to_end.new.engine c.step_to_end.new.disk c.step_to_end.new.steps in
    let stop = c.in-Err.ensures.err in
    drive_fails a b stop.events c.requires.sound _ stop.fails (sink_state g.S.Sink c.args.out.now) (sink_state g.S.Sink c.step_to_end.new.out) stop.cut
    (stop.begun c.args.out.now [] (record { part = []; now_is = sym (appended-nil _); all = c.new-lines.ensures }))
