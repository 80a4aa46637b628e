use Rattle.std.proofs.Common.{◌∙◌, ap, arith, length, List}
use Rattle.sq_net.specs.declared.Node.{Node}
use Rattle.sq_net.proofs.StreamLemmas.{boxes_count, boxes_few}
use Rattle.sq_joined.proofs.Streams.{streams_low, inputs_low, outputs_low}
use Rattle.sq_joined.proofs.Making.{net_is, boxes_are}
use Rattle.sq_joined.proofs.join_kept.Goals as goal

pub joined_wires-requires-clause-few : goal.joined_wires-requires-clause-few
joined_wires-requires-clause-few c = boxes_few c.args.n c.requires.plain

pub joined_wires-requires-clause-streams : goal.joined_wires-requires-clause-streams
joined_wires-requires-clause-streams c = streams_low c.args.n c.requires.plain

pub joined_wires-requires-clause-inputs : goal.joined_wires-requires-clause-inputs
joined_wires-requires-clause-inputs c = inputs_low c.args.q c.requires.asked

pub joined_wires-requires-clause-outputs : goal.joined_wires-requires-clause-outputs
joined_wires-requires-clause-outputs c = outputs_low c.args.q c.requires.asked

pub joined_boxes-requires : goal.joined_boxes-requires
joined_boxes-requires c =
    let few = boxes_few c.args.n c.requires.plain in
    let count = boxes_count c.args.n c.requires.plain in
    let same = ap (λ (bs : List Node). length bs) (c.into_vec.ensures ∙ ap (λ parts. parts.1) c.into_parts-sources.ensures) in
    omega (arith, few, count, same)

pub returns : goal.returns
returns c =
    net_is c.args.n c.args.stream c.args.from c.args.q c.args.keep.now c.in_ok-wires.wires _ c.new.result _ c.in_ok-wires.ensures
    (ap (λ parts. parts.0) c.into_parts-sources.ensures)
    (c.new.ensures
    ∙ boxes_are c.args.n c.args.stream c.args.from c.args.q c.args.keep.now _ _ c.in_ok-boxes.boxes.items c.in_ok-tap.tap _ _ (c.into_vec.ensures ∙ ap (λ parts. parts.1) c.into_parts-sources.ensures)
    (c.into_vec-2.ensures ∙ ap (λ parts. parts.1) c.into_parts-sources-2.ensures) c.in_ok-tap.ensures c.stream_schema.ensures c.stream_schema-2.ensures c.in_ok-boxes.ensures)
    (ap (λ parts. parts.2) c.into_parts-sources-2.ensures)
