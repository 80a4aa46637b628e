use Rattle.std.proofs.Common.{None, [], inl, refl}
use Rattle.sq_pool.proofs.TrustLemmas.{IsLater-refl}
use Rattle.sq_status.specs.declared.Status.TheVariants as status
use Rattle.sq_due.specs.States.{unseen}
use Rattle.sq_drive.specs.Turns.{run_state}
use Rattle.sq_drive.proofs.OutcomeLemmas.{count_ends, cut_always, drive_fails}
use Rattle.sq_drive.proofs.StopLemmas.{lost_cut}
use Rattle.sq_drive.proofs.TurnLemmas.{fails_lost, goes_none}
use Rattle.sq_due.proofs.WritingLemmas.{lost_at_once}
use Rattle.sq_drive.proofs.driving.count.Goals as goal

-- memory ran out before the first turn
pub returns-in-Err-clause-err : goal.returns-in-Err-clause-err
returns-in-Err-clause-err g c before now =
    let a = run_state g.D.PageDisk c.args.engine c.args.disk.now c.args.steps.now in
    drive_fails a a [] c.requires.sound status.Memory (fails_lost a.engine.network a a [] (goes_none a c.requires) 0 0 status.Memory (inl refl))
    (unseen before) (unseen now) (lost_cut before now status.Memory (inl refl)) (lost_at_once None _)

pub returns-in-Err-clause-later : goal.returns-in-Err-clause-later
returns-in-Err-clause-later g c = IsLater-refl _

pub returns-in-Ok-step_to_end-clause-ok : goal.returns-in-Ok-step_to_end-clause-ok
returns-in-Ok-step_to_end-clause-ok g c =
    let a = run_state g.D.PageDisk c.args.engine c.args.disk.now c.args.steps.now in
    let b = run_state g.D.PageDisk c.step_to_end.new.engine c.step_to_end.new.disk c.step_to_end.new.steps in
    let out = c.in-Ok-step_to_end.ensures.ok in
    count_ends a b out.events c.step_to_end.ensures.keeps out.ends c.step_to_end.new.audience out.ready (out.whole tt [] c.in-Ok.ensures.none)

pub returns-in-Err-step_to_end-clause-err : goal.returns-in-Err-step_to_end-clause-err
returns-in-Err-step_to_end-clause-err g c before now =
    let a = run_state g.D.PageDisk c.args.engine c.args.disk.now c.args.steps.now in
    let b = run_state g.D.PageDisk c.step_to_end.new.engine c.step_to_end.new.disk c.step_to_end.new.steps in
    let stop = c.in-Err-step_to_end.ensures.err in
    drive_fails a b stop.events c.requires.sound _ stop.fails (unseen before) (unseen now) (cut_always _ stop.cut before now) (lost_at_once None _)
