use Rattle.std.proofs.Common.{◌≡◌, ap, sym, ◌∙◌, length, map, arith}
use Rattle.sq_words.specs.Lists.{numbers_to}
use Rattle.sq_graph.specs.declared.BoxWires.{BoxWires}
use Rattle.sq_graph.specs.Wires.{arc_at, inputs_at}
use Rattle.sq_place.proofs.Wires.{input-there}
use Rattle.sq_points.proofs.Bounds.{few_arcs}
use Rattle.sq_place.proofs.Numbering.{numbered_more, inputs-few}
use Rattle.sq_core.proofs.network.input_arcs.Goals as goal
use Rattle.sq_words.proofs.Lists.{item_there}

pub overflow_cast-port-end : goal.overflow_cast-port-end
overflow_cast-port-end c =
    let there = item_there c.args.n.now.wires.boxes c.as_slice.result.now c.args.at c.index-as_slice-at.result c.as_slice.ensures c.requires.there c.index-as_slice-at.is in
    let many = inputs-few c.args.n.now.wires c.args.at c.index-as_slice-at.result there in
    let same = ap length c.as_slice-2.ensures in
    let is = ap (λ (b : BoxWires). length b.inputs) c.index-as_slice-at.is in
    (let few = few_arcs c.args.n.now c.requires.sound in omega (arith, many, same, is, few))

pub arc_of-requires-clause-fits : goal.arc_of-requires-clause-fits
arc_of-requires-clause-fits c =
    let there = item_there c.args.n.now.wires.boxes c.as_slice.result.now c.args.at c.index-as_slice-at.result c.as_slice.ensures c.requires.there c.index-as_slice-at.is in
    let same = ap length c.as_slice-2.ensures in
    let is = ap (λ (b : BoxWires). length b.inputs) c.index-as_slice-at.is in
    let inside = input-there c.args.n.now.wires c.args.at c.loop-port.port c.index-as_slice-at.result there (omega (arith, same, is, c.loop-port-test.true)) in
    (let few = few_arcs c.args.n.now c.requires.sound in omega (arith, inside, few))

pub loop-port-preserved : goal.loop-port-preserved
loop-port-preserved c = numbered_more (arc_at c.args.n.now.wires c.args.at) c.loop-port.port c.arc_of.result _ _ c.in_ok-push.ensures.items c.loop-port.invariant c.arc_of.ensures

pub returns : goal.returns
returns c =
    let there = item_there c.args.n.now.wires.boxes c.as_slice.result.now c.args.at c.index-as_slice-at.result c.as_slice.ensures c.requires.there c.index-as_slice-at.is in
    let same = ap length c.as_slice-2.ensures in
    let is = ap (λ (b : BoxWires). length b.inputs) c.index-as_slice-at.is in
    let ended = c.loop-port-test.false in
    let end = c.loop-port.auto.port-end in
    let all : c.loop-port.port ≡ length (c.index-as_slice-at.result).inputs = omega (arith, ended, end, same, is) in
    c.loop-port.invariant ∙ ap (λ n. map (arc_at c.args.n.now.wires c.args.at) (numbers_to n)) (all ∙ sym (ap (λ o. length (inputs_at o)) there))
