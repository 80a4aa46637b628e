use Rattle.sq_rules.specs.Limits.{box_within}
use Rattle.sq_rules.proofs.LimitLemmas.{box_of}
use Rattle.sq_rules.proofs.ListLemmas.{item_passes}
use Rattle.sq_rules.proofs.streams.push_all_ports.Goals as goal

pub push_ports-requires : goal.push_ports-requires
push_ports-requires c = (box_of c.b-item.result (item_passes box_within c.args.boxes.now c.loop-b.b-index c.b-item.result c.requires c.loop-b-test.true c.b-item.is)).body
