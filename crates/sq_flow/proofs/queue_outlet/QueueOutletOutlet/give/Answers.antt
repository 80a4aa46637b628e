use Rattle.std.proofs.Common.{ap, ◌∙◌}
use Rattle.sq_oper.specs.Outflow.{given}
use Rattle.sq_oper.proofs.GivenLemmas.{given-push, ItemsSound-push, IsPrefixOf-append}
use Rattle.sq_flow.proofs.QueueOutletLemmas.{came-item, came-fault, open-still}
use Rattle.sq_flow.proofs.queue_outlet.QueueOutletOutlet.give.Goals as goal

pub returns-clause-given : goal.returns-clause-given
returns-clause-given g c = λ q. ap (given q) c.with-given.ensures ∙ given-push q c.args.port c.args.self.now.given.items c.args.item

pub returns-clause-sound : goal.returns-clause-sound
returns-clause-sound g c = λ sound. rw c.with-given.ensures (ItemsSound-push c.args.port c.args.self.now.given.items c.args.item c.requires.is_sound sound)

pub returns-clause-extends : goal.returns-clause-extends
returns-clause-extends g c = rw c.with-given.ensures (IsPrefixOf-append c.args.self.now.given.items _)

pub returns-clause-stays_ready : goal.returns-clause-stays_ready
returns-clause-stays_ready g c =
    open-still g.D.PageDisk.log g.D.PageDisk.faults c.args.self.now c.requires.is_ready c.pass_on.new.queues c.pass_on.new.disk c.pass_on.new.events c.pass_on.new.failed c.with-given.result _ _ _ c.in_ok-pass_on.ensures.ok.whole c.in_ok-pass_on.ensures.ok.sent

pub returns-clause-came : goal.returns-clause-came
returns-clause-came g c = λ start came.
    came-item g.D.PageDisk.log g.D.PageDisk.faults start c.args.self.now came c.requires.is_ready c.pass_on.new.queues c.pass_on.new.disk c.pass_on.new.events c.in_ok-pass_on.ensures.disk
    c.pass_on.new.failed c.with-given.result c.args.port c.args.item c.with-given.ensures c.in_ok-pass_on.ensures.ok c.in_ok-pass_on.ensures.shown

pub returns-in_err-pass_on-clause-came : goal.returns-in_err-pass_on-clause-came
returns-in_err-pass_on-clause-came g c = λ start came.
    came-fault g.D.PageDisk.log g.D.PageDisk.faults start c.args.self.now came c.requires.is_ready c.pass_on.new.queues c.pass_on.new.disk c.pass_on.new.events c.in_err-pass_on.ensures.disk
    c.pass_on.new.failed c.in_err-pass_on.ensures.silent c.in_err-pass_on.ensures.err

pub pass_on-requires-clause-gives : goal.pass_on-requires-clause-gives
pass_on-requires-clause-gives g c = c.requires.is_ready.passes c.args.port
