use Rattle.std.proofs.Common.{◌∙◌, ℕ, ap, List}
use Rattle.sq_rules.specs.Limits.{box_within}
use Rattle.sq_reader.specs.Columns.{columns_taken}
use Rattle.sq_rules.proofs.LimitLemmas.{counts_of}
use Rattle.sq_rules.proofs.ListLemmas.{item_passes, item_there}
use Rattle.sq_rules.proofs.WiringLemmas.{wired_there}
use Rattle.sq_reader.proofs.NodeLemmas.{node_from}
use Rattle.sq_reader.proofs.nodes.typed_node.Goals as goal

pub node_in-requires-clause-within : goal.node_in-requires-clause-within
node_in-requires-clause-within c =
    item_passes box_within c.args.raw.now.boxes c.args.at c.index-as_slice-at.result (counts_of c.args.raw.now c.requires.within).each_box c.requires.there (rw c.as_slice.ensures at c.index-as_slice-at.is)

pub node_in-requires-clause-takes : goal.node_in-requires-clause-takes
node_in-requires-clause-takes c =
    let here = item_there c.args.raw.now.boxes c.args.at c.index-as_slice-at.result c.requires.there (rw c.as_slice.ensures at c.index-as_slice-at.is) in
    let wired = wired_there c.args.raw.now c.args.w.now c.args.at c.index-as_slice-at-2.result c.requires.wires c.requires.there (rw c.as_slice-2.ensures at c.index-as_slice-at-2.is) in
    rw (c.deref.ensures.value, c.in_ok-ins.ensures, c.as_slice-3.ensures) (rw wired at c.requires.takes c.index-as_slice-at.result here)

pub returns : goal.returns
returns c =
    node_from c.args.raw.now c.args.w.now c.args.sources.now c.args.nodes.now c.args.at c.index-as_slice-at.result c.index-as_slice-at-2.result c.deref.result.now c.node_in.result
    (item_there c.args.raw.now.boxes c.args.at c.index-as_slice-at.result c.requires.there (rw c.as_slice.ensures at c.index-as_slice-at.is))
    (wired_there c.args.raw.now c.args.w.now c.args.at c.index-as_slice-at-2.result c.requires.wires c.requires.there (rw c.as_slice-2.ensures at c.index-as_slice-at-2.is))
    (c.deref.ensures.value ∙ (c.in_ok-ins.ensures ∙ ap (λ (ins : List ℕ). columns_taken c.args.w.now c.args.sources.now c.args.nodes.now ins) c.as_slice-3.ensures))
    c.node_in.ensures
