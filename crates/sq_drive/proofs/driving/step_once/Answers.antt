use Rattle.sq_queue.proofs.LaneLemmas.{on-ok-both}
use Rattle.sq_drive.specs.Turns.{TurnFails, moment}
use Rattle.sq_drive.proofs.DrivingLemmas.{if_err}
use Rattle.sq_drive.proofs.StopLemmas.{falls_lower}
use Rattle.sq_drive.proofs.TurnLemmas.{fails_here, goes_here, turn_fails, turn_lost, turn_on}
use Rattle.sq_due.proofs.WritingLemmas.{on_ok_any}
use Rattle.sq_drive.proofs.driving.step_once.Goals as goal

pub show-requires : goal.show-requires
show-requires g c =
    let a = moment g.D.PageDisk c.args.engine.now c.args.disk.now c.args.steps.now c.args.audience.now c.args.out.now in
    let b = moment g.D.PageDisk c.step.new.self c.step.new.disk c.step.new.steps c.args.audience.now c.args.out.now in
    rw (c.as_slice.ensures.value, c.step.ensures.network)
    (record { there = (goes_here a.run b.run _ _ c.clear.ensures.items c.requires.ready.engine _ _ c.in-Ok.ensures.ok).there; ready = c.requires.ready.audience })

pub returns-in-Ok-clause-keeps : goal.returns-in-Ok-clause-keeps
returns-in-Ok-clause-keeps g c = record { network = c.step.ensures.network; later = c.step.ensures.keeps.later; faults = c.step.ensures.keeps.faults }

pub returns-in-Err-clause-keeps : goal.returns-in-Err-clause-keeps
returns-in-Err-clause-keeps g c = record { network = c.step.ensures.network; later = c.step.ensures.keeps.later; faults = c.step.ensures.keeps.faults }

pub returns-in-Ok-clause-falls : goal.returns-in-Ok-clause-falls
returns-in-Ok-clause-falls g c = on_ok_any c.show.result (falls_lower _ _ _ _ c.in-Ok.ensures.ok.step.train.falls c.in-Ok.ensures.ok.step.works)

pub returns-in-Ok-clause-ok : goal.returns-in-Ok-clause-ok
returns-in-Ok-clause-ok g c =
    let a = moment g.D.PageDisk c.args.engine.now c.args.disk.now c.args.steps.now c.args.audience.now c.args.out.now in
    let b = moment g.D.PageDisk c.step.new.self c.step.new.disk c.step.new.steps c.show.new.self c.show.new.out in
    on-ok-both c.show.result (rw (c.as_slice.ensures.value, c.step.ensures.network) at c.show.ensures.ok) (rw c.step.ensures.network at c.show.ensures.ready)
    (turn_on g.A.Audience c.args.engine.now.network a b _ (goes_here a.run b.run _ _ c.clear.ensures.items c.requires.ready.engine _ _ c.in-Ok.ensures.ok))

pub returns-in-Ok-clause-err : goal.returns-in-Ok-clause-err
returns-in-Ok-clause-err g c =
    let a = moment g.D.PageDisk c.args.engine.now c.args.disk.now c.args.steps.now c.args.audience.now c.args.out.now in
    let b = moment g.D.PageDisk c.step.new.self c.step.new.disk c.step.new.steps c.show.new.self c.show.new.out in
    if_err (TurnFails g.A.Audience c.args.engine.now.network a b) c.show.result (rw (c.as_slice.ensures.value, c.step.ensures.network) at c.show.ensures.err)
    (turn_lost g.A.Audience c.args.engine.now.network a b _ (goes_here a.run b.run _ _ c.clear.ensures.items c.requires.ready.engine _ _ c.in-Ok.ensures.ok))

pub returns-in-Err-clause-err : goal.returns-in-Err-clause-err
returns-in-Err-clause-err g c =
    let a = moment g.D.PageDisk c.args.engine.now c.args.disk.now c.args.steps.now c.args.audience.now c.args.out.now in
    let b = moment g.D.PageDisk c.step.new.self c.step.new.disk c.step.new.steps c.args.audience.now c.args.out.now in
    turn_fails g.A.Audience c.args.engine.now.network a b.run c.in-Err.e
    (fails_here a.run b.run _ _ c.clear.ensures.items c.in-Err.e c.in-Err.ensures.err
    (record { network = c.step.ensures.network; later = c.step.ensures.keeps.later; faults = c.step.ensures.keeps.faults }) c.requires.ready.engine)
    (λ from history was. g.met.A.Audience.begins from c.args.audience.now c.args.out.now c.args.engine.now.network history was) _ c.status_of.ensures
