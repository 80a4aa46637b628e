use Rattle.std.proofs.Common.{◌++◌, arith, refl, subst, sym}
use Rattle.sq_pool.specs.Trust.{known}
use Rattle.sq_net.specs.declared.Network.{Network}
use Rattle.sq_drive.specs.Turns.{TurnFails, TurnsOn, moment}
use Rattle.sq_drive.proofs.LeftLemmas.{rest_shown}
use Rattle.sq_drive.proofs.StopLemmas.{lost_cut}
use Rattle.sq_due.proofs.WritingLemmas.{lost_later}
use Rattle.sq_drive.proofs.TurnLemmas.{fails_lost, keeps_none, keeps_then, turns_fail, turns_none, turns_then}
use Rattle.sq_drive.proofs.driving.step_to_end.Goals as goal

pub steps-init : goal.steps-init
steps-init g c =
    let a = moment g.D.PageDisk c.args.engine.now c.args.disk.now c.args.steps.now c.args.audience.now c.args.out.now in
    record { keeps = keeps_none a.run; on = turns_none g.A.Audience a c.requires; later = omega arith }

pub step_once-requires-clause-ready : goal.step_once-requires-clause-ready
step_once-requires-clause-ready g c =
    let before = c.steps.invariant in
    record {
      engine = record { sound = before.on.goes.sound; known = before.on.goes.known; together = before.on.goes.left.together };
      audience = subst (g.A.Audience.ready c.steps.audience) (sym before.keeps.network) before.on.ready;
    }

pub steps-preserved : goal.steps-preserved
steps-preserved g c =
    let before = c.steps.invariant in
    let m = g.A.Audience in
    let a = moment g.D.PageDisk c.args.engine.now c.args.disk.now c.args.steps.now c.args.audience.now c.args.out.now in
    let b = moment g.D.PageDisk c.steps.engine c.steps.disk c.steps.steps c.steps.audience c.steps.out in
    let d = moment g.D.PageDisk c.step_once.new.engine c.step_once.new.disk c.step_once.new.steps c.step_once.new.audience c.step_once.new.out in
    record {
      keeps = keeps_then a.run b.run d.run before.keeps c.step_once.ensures.keeps;
      on = turns_then m c.args.engine.now.network a b before.on d (subst (λ (n : Network). TurnsOn m n b d) before.keeps.network c.in-Ok.ensures.ok);
      later = omega (arith, before.later, c.step_once.ensures.later);
    }

pub returns-in-Err-clause-keeps : goal.returns-in-Err-clause-keeps
returns-in-Err-clause-keeps g c = keeps_then _ _ _ c.steps.invariant.keeps c.step_once.ensures.keeps

pub returns-in-Err-clause-err : goal.returns-in-Err-clause-err
returns-in-Err-clause-err g c =
    let before = c.steps.invariant in
    let m = g.A.Audience in
    let a = moment g.D.PageDisk c.args.engine.now c.args.disk.now c.args.steps.now c.args.audience.now c.args.out.now in
    let b = moment g.D.PageDisk c.steps.engine c.steps.disk c.steps.steps c.steps.audience c.steps.out in
    let d = moment g.D.PageDisk c.step_once.new.engine c.step_once.new.disk c.step_once.new.steps c.step_once.new.audience c.step_once.new.out in
    turns_fail m c.args.engine.now.network a b before.on d before.keeps before.later c.in-Err.status
    (subst (λ (n : Network). TurnFails m n b d c.in-Err.status) before.keeps.network c.in-Err.ensures.err)

pub all_shown-requires-clause-done : goal.all_shown-requires-clause-done
all_shown-requires-clause-done g c = c.steps-test.ensures.done c.steps.invariant.on.goes.sound.engine.running refl

pub nothing_left-requires-clause-done : goal.nothing_left-requires-clause-done
nothing_left-requires-clause-done g c = c.steps-test.ensures.done c.steps.invariant.on.goes.sound.engine.running refl

pub returns-in-Ok-close-clause-ok : goal.returns-in-Ok-close-clause-ok
returns-in-Ok-close-clause-ok g c =
    let on = c.steps.invariant.on in
    let was = known (g.D.PageDisk.log c.args.disk.now) in
    let is = known (g.D.PageDisk.log c.steps.disk) in
    record {
      events = on.events;
      ends = record {
        on = on.goes;
        done = c.steps-test.ensures.done on.goes.sound.engine.running refl;
        rest = rest_shown was is c.args.engine.now c.requires.engine.sound c.steps.engine on.events on.goes.left c.nothing_left.ensures.known;
        all = λ told r history begun run. c.all_shown.ensures.run r is (history ++ on.events) begun c.steps.steps told (on.goes.runs r history begun run);
      };
      whole = λ from history shown. c.in-Ok-close.ensures.ok from c.args.engine.now.network (history ++ on.events) (on.shown from history shown);
      ready = c.in-Ok-close.ensures.ready c.args.engine.now.network on.ready;
    }

pub returns-clause-err : goal.returns-clause-err
returns-clause-err g c =
    let on = c.steps.invariant.on in
    let n = c.args.engine.now.network in
    let lost = c.in-Err-close.ensures.err in
    record {
      events = on.events;
      fails = fails_lost n _ _ on.events on.goes _ _ c.in-Err-close.status lost.lost;
      begun = λ from history shown. lost.begun from n (history ++ on.events) (on.shown from history shown);
      cut = lost_cut _ _ c.in-Err-close.status (lost_later _ _ _ c.in-Err-close.status c.steps.invariant.later lost.lost);
    }
