use Rattle.std.proofs.Common.{◌∙◌, sym}
use Rattle.sq_flow.specs.Stepping.{stage}
use Rattle.sq_flow.proofs.SteppingLemmas.{step-waits, ok-at, err-at}
use Rattle.sq_flow.proofs.flow.Flow.one_step.Goals as goal

pub returns-then-is_done-clause-ok : goal.returns-then-is_done-clause-ok
returns-then-is_done-clause-ok g c =
    step-waits _ c.args.seat _ _ c.requires.may (λ ready. cc (sym c.if-is_done.true ∙ c.is_done.ensures ∙ ready.running))

pub returns-then-seat-self-clause-ok : goal.returns-then-seat-self-clause-ok
returns-then-seat-self-clause-ok g c =
    ok-at _ c.args.steps.now c.replay_step.new.failed (stage g.D.PageDisk c.args.self.now c.args.disk.now c.args.events.now.items) (stage g.D.PageDisk c.replay_step.new.self c.replay_step.new.disk c.replay_step.new.events.items)
    _ c.args.seat c.replay_step.result (sym (c.if-seat-self.true ∙ c.requires.may.holds.flow.shaped.replay_is)) c.replay_step.ensures.ok

pub returns-then-seat-self-clause-err : goal.returns-then-seat-self-clause-err
returns-then-seat-self-clause-err g c =
    err-at _ c.args.steps.now c.replay_step.new.failed (stage g.D.PageDisk c.args.self.now c.args.disk.now c.args.events.now.items) (stage g.D.PageDisk c.replay_step.new.self c.replay_step.new.disk c.replay_step.new.events.items)
    c.replay_step.result c.replay_step.ensures.err
