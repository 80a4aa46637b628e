use Rattle.sq_start.proofs.actors.network_actors.Goals as goal

pub push_drops-requires-clause-started : goal.push_drops-requires-clause-started
push_drops-requires-clause-started c = c.in_ok-push_boxes.ensures.started c.args.seed

pub returns-clause-started : goal.returns-clause-started
returns-clause-started c = c.in_ok-push_outputs.ensures.started c.args.seed c.in_ok-push_drops.ensures.started
