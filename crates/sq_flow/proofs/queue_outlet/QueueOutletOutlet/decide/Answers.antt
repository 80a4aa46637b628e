use Rattle.sq_flow.proofs.QueueOutletLemmas.{came-drop, came-same}
use Rattle.sq_flow.proofs.queue_outlet.QueueOutletOutlet.decide.Goals as goal

pub returns-clause-came : goal.returns-clause-came
returns-clause-came g c = λ start came.
    came-drop g.D.PageDisk.log g.D.PageDisk.faults start c.args.self.now came c.show_drop.new.events c.with-noted.result c.args.decision c.with-noted.ensures c.in_ok-show_drop.ensures.ok

pub returns-in_err-show_drop-clause-came : goal.returns-in_err-show_drop-clause-came
returns-in_err-show_drop-clause-came g c = λ start came. came-same g.D.PageDisk.log g.D.PageDisk.faults start c.args.self.now came c.show_drop.new.events c.in_err-show_drop.ensures.err
