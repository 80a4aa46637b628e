use Rattle.sq_rules.proofs.LimitLemmas.{counts_of}
use Rattle.sq_reader.proofs.RuleLemmas.{sources_within}
use Rattle.sq_reader.proofs.network.graphed_network.Goals as goal

pub nodes_in-requires-clause-given : goal.nodes_in-requires-clause-given
nodes_in-requires-clause-given c =
    let read = rw c.as_slice-2.ensures at c.in_ok-sources.ensures.ok in
    rw c.deref.ensures.value (sources_within 0 c.args.raw.now.sources c.in_ok-sources.sources.items read (counts_of c.args.raw.now c.requires.within).each_source).1
