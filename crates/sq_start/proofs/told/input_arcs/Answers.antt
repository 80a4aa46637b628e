use Rattle.std.proofs.Common.{◌≡◌, ◌++◌, ◌∷◌, [], ap, sym, ◌∙◌, length, map, arith}
use Rattle.sq_words.specs.Lists.{numbers_to}
use Rattle.sq_graph.specs.declared.BoxWires.{BoxWires}
use Rattle.sq_graph.specs.Wires.{arc_at, inputs_at}
use Rattle.sq_start.proofs.ToldLemmas.{port-low, item-there}
use Rattle.sq_start.proofs.told.input_arcs.Goals as goal
use Rattle.sq_words.proofs.Ranges.{map_more}

pub overflow_cast-port : goal.overflow_cast-port
overflow_cast-port c =
    let n = c.args.n.now in
    let there = item-there n.wires.boxes c.as_slice.result.now c.args.b c.index-as_slice-b.result c.as_slice.ensures c.requires.there c.index-as_slice-b.is in
    let count = ap length c.as_slice-inputs.ensures ∙ ap (λ (x : BoxWires). length x.inputs) (sym c.index-as_slice-b.is) in
    let low = c.loop-port-test.true in
    let arc = port-low n c.requires.sound c.args.b c.loop-port.port c.index-as_slice-b.result c.requires.there there (omega (arith, count, low)) in
    omega (arith, arc.0)

pub arc_of-requires-clause-fits : goal.arc_of-requires-clause-fits
arc_of-requires-clause-fits c =
    let n = c.args.n.now in
    let there = item-there n.wires.boxes c.as_slice.result.now c.args.b c.index-as_slice-b.result c.as_slice.ensures c.requires.there c.index-as_slice-b.is in
    let count = ap length c.as_slice-inputs.ensures ∙ ap (λ (x : BoxWires). length x.inputs) (sym c.index-as_slice-b.is) in
    let low = c.loop-port-test.true in
    let arc = port-low n c.requires.sound c.args.b c.loop-port.port c.index-as_slice-b.result c.requires.there there (omega (arith, count, low)) in
    omega (arith, arc.1)

pub loop-port-preserved : goal.loop-port-preserved
loop-port-preserved c =
    c.in_ok-push.ensures.items ∙ ap (λ l. l ++ c.arc_of.result ∷ []) c.loop-port.invariant
    ∙ ap (λ x. map (arc_at c.args.n.now.wires c.args.b) (numbers_to c.loop-port.port) ++ x ∷ []) c.arc_of.ensures
    ∙ sym (map_more (arc_at c.args.n.now.wires c.args.b) c.loop-port.port)

pub returns : goal.returns
returns c =
    let n = c.args.n.now in
    let there = item-there n.wires.boxes c.as_slice.result.now c.args.b c.index-as_slice-b.result c.as_slice.ensures c.requires.there c.index-as_slice-b.is in
    let count = ap length c.as_slice-inputs.ensures ∙ ap (λ (x : BoxWires). length x.inputs) (sym c.index-as_slice-b.is) in
    let past = c.loop-port-test.false in
    let within = c.loop-port.auto.port-end in
    let is : c.loop-port.port ≡ length c.index-as_slice-b.result.inputs = omega (arith, count, past, within) in
    c.loop-port.invariant ∙ ap (λ k. map (arc_at n.wires c.args.b) (numbers_to k)) (is ∙ sym (ap (λ o. length (inputs_at o)) there))
