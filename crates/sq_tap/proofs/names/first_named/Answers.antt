use Rattle.std.proofs.Common.{sym}
use Rattle.sq_tap.proofs.Naming.{named_in_front, named_behind}
use Rattle.sq_tap.proofs.names.first_named.Goals as goal

pub returns-in-Some : goal.returns-in-Some
returns-in-Some c =
    sym (named_in_front c.args.n.now c.args.name.now c.in-Some.stream c.as_slice-sources.result.now c.source_named.result c.as_slice-sources.ensures c.source_named.ensures c.in-Some.is)

pub returns-in-None : goal.returns-in-None
returns-in-None c =
    named_behind c.args.n.now c.args.name.now c.as_slice-sources.result.now c.as_slice.result.now c.source_named.result c.box_named.result c.as_slice-sources.ensures c.as_slice.ensures
    c.source_named.ensures c.in-None.is c.box_named.ensures
